-- Ticket 1: no call but compression, which renames, lets a frame into a sealed run or takes its mark.
use Rattle.std.specs.Prelude.{if◌then◌else◌, ◌==◌}
use mathlib.Core.Path.{◌≡◌, refl, sym, ap, ◌∙◌}
use mathlib.Core.Logic.{◌≢◌}
use mathlib.Core.Bool.{Bool, true, false}
use mathlib.Core.List.{List, map}
use Prim.Native.Nat.{ℕ, ◌*◌}
use native.Mathlib.Omega.{arith}
use native.Mathlib.Decide.{ℕ_discrete}
use lib.ListN.{length}
use Rattle.rules.specs.declared.Key.{Key}
use Rattle.rules.specs.declared.Memory.{Memory}
use Rattle.rules.specs.Notation.{◌<?◌}
use Rattle.rules.specs.Tables.{sized, frame_width, blank, class_of, State, with_undo, with_shared, size_at, is_sealed}
use Rattle.rules.specs.Refusals.{Ruling, refuse, accept, outcome, with_live}
use Rattle.rules.specs.Reads
use Rattle.rules.specs.Slots
use Rattle.rules.specs.Slots.{empty, is_full}
use Rattle.rules.specs.Sound.{both_fit}
use Rattle.rules.specs.Runs
use Rattle.rules.specs.Drains
use Rattle.rules.specs.Drains.{is_short, key_width, record_width}
use Rattle.rules.specs.Seals
use Rattle.rules.specs.Seals.{seal_width, sealed}
use Rattle.rules.specs.Undo
use Rattle.rules.specs.Undo.{Remembers}
use Rattle.rules.specs.Exchange
use Rattle.rules.specs.Exchange.{all_differ, valued}
use Rattle.rules.specs.Compress
use Rattle.rules.specs.Compress.{pair_width}
use Rattle.rules.specs.WriteFile
use Rattle.rules.specs.WriteFile.{bytes_in}
use Rattle.rules.specs.Calls.{Call, len_surject, in_same_surject, get_element, get_shared, get_size, get_total, lookup, set_element, set_shared, check, new_run, insert, union, remove, remove_shared, list, drain, seal, drain_all, clear, undo, exchange, compress, compress_with, write_file, ruling, Ready}
use Rattle.rules.specs.Renaming.{Compresses, canonical, kept}
use Rattle.rules.proofs.Laws.Columns.{cell-zeros, cols, upd_same, upd_other}
use Rattle.rules.proofs.Laws.Working.{View, view}
use Rattle.rules.proofs.Laws.Safe.{working}
use Rattle.rules.proofs.Laws.Stored.{room}
use Rattle.rules.proofs.Laws.Sets.{set_element_v, element_set, element_set-view, valued-mark}
use Rattle.rules.proofs.Laws.Sealed.{seal_v, sealed_view}
use Rattle.rules.proofs.Laws.Rulings.{live_at, by_test, by_key, by-keys}
use Rattle.rules.proofs.Laws.Tests.{eq_is, is-not}
use Rattle.rules.proofs.Laws.Steady.{mark_at, unmarked, Fewer, fewer-none, Steady, steady_same, removed-fewer, ring_removed-fewer, drained-fewer, begun_steady, inserted_steady, joined_steady}
use Rattle.rules.proofs.Laws.Undone.{traced_memory, back_steady}

-- a frame of a sealed run that stays has its mark, and those of its run were of its run
pub record Closed (v v' : View) : Type 0 where
  pub mark : (s : ℕ) → v.gen s ≢ 0 → v'.gen s ≡ v.gen s → mark_at v s ≡ 1 → mark_at v' s ≡ 1
  pub joins : (s t : ℕ) → v.gen s ≢ 0 → v'.gen s ≡ v.gen s → mark_at v s ≡ 1 → v'.gen t ≢ 0 → v'.class t ≡ v'.class s → (v'.gen t ≡ v.gen t) × (v.class t ≡ v.class s)

steady_closed : (v v' : View) → Steady v v' → Closed v v'
steady_closed v v' F = record {
  mark = λ s h g e. F.mark s h ∙ e;
  joins = λ s t h g e l q. let j = F.joins s t h e l q in (F.stays t j.0, j.1);
}

fewer_closed : (v v' : View) → Fewer v v' → Closed v v'
fewer_closed v v' F = record {
  mark = λ s h g e. let l : v'.gen s ≢ 0 = λ z. h (sym g ∙ z) in ap v'.mark (F.class s l) ∙ F.mark s l ∙ e;
  joins = λ s t h g e l q. (F.gen t l, sym (F.class t l) ∙ q ∙ F.class s (λ z. h (sym g ∙ z)));
}

pub closed_same : (v v' : View) → v'.gen ≡ v.gen → v'.class ≡ v.class → v'.mark ≡ v.mark → Closed v v'
closed_same v v' g c m = steady_closed v v' (steady_same v v' g c m)

-- what the head remembers is no part of it
closed_memory : (v : View) (st : State) (m : Memory) → Closed v (view st) → Closed v (view (with_undo st m))
closed_memory v st m C = record { mark = C.mark; joins = C.joins }

-- nothing is left
closed_empty : (v : View) (elems shared g : ℕ) → Closed v (view (empty elems shared g))
unfolding empty
closed_empty v elems shared g = fewer_closed v (view (empty elems shared g)) (fewer-none v (view (empty elems shared g)) (λ s. cell-zeros frame_width (elems * frame_width) 0 s))

-- a run is sealed: the others keep their marks
seal_closed : (st : State) → Ready st → (c : ℕ) → (view st).count c ≢ 0 → Closed (view st) (view (sealed st c))
unfolding seal_v
seal_closed st R c n = rw (sealed_view st R c n) (record { mark = λ s h g e. mark s (ℕ_discrete ((view st).class s) c) e; joins = λ s t h g e l q. (refl, q) })
  where
    mark : (s : ℕ) → Dec ((view st).class s ≡ c) → mark_at (view st) s ≡ 1 → mark_at (seal_v (view st) c) s ≡ 1
    mark s (yes q) e = rw (q, upd_same)
    mark s (no q) e = upd_other (view st).mark c 1 ((view st).class s) q ∙ e

-- a ruling after which that holds: a refusal leaves all as it was
abbrev Closes : State → Ruling → Type 0
Closes st (refuse r) = Unit {0}
Closes st (accept values over st' places) = Closed (view st) (view st')

pub closed_outcome : (st : State) (lent : List ℕ) (r : Ruling) → Closes st r → Closed (view st) (view (outcome st lent r).state)
closed_outcome st lent (refuse r) c = closed_same (view st) (view st) refl refl refl
closed_outcome st lent (accept values over st' places) c = c

module _ (st : State) (R : Ready st) (M : Remembers st) where
  either : (b : Bool) (p q : Ruling) → (b ≡ true → Closes st p) → (b ≡ false → Closes st q) → Closes st (if b then p else q)
  either = by_test (Closes st)

  on-live : (k : Key) (rule : ℕ → Ruling) → ((view st).gen k.slot ≢ 0 → Closes st (rule k.slot)) → Closes st (with_live st k rule)
  on-live k rule h = by_key (Closes st) (λ r. tt) st k rule (λ l. h (live_at st k l))

  abbrev same : Closed (view st) (view st)
  same = closed_same (view st) (view st) refl refl refl

  abbrev steady : (st' : State) → Steady (view st) (view st') → Closed (view st) (view st')
  steady st' = steady_closed (view st) (view st')

  abbrev fewer : (st' : State) → Fewer (view st) (view st') → Closed (view st) (view st')
  fewer st' = fewer_closed (view st) (view st')

  set_closed : (x payload : ℕ) → (view st).gen x ≢ 0 → Closed (view st) (view (element_set st x payload))
  unfolding set_element_v
  set_closed x payload h = let e = element_set-view st R x payload h in closed_same (view st) (view (element_set st x payload)) (ap (λ (v : View). v.gen) e) (ap (λ (v : View). v.class) e) (ap (λ (v : View). v.mark) e)

  pub closes : (lent : List ℕ) (c : Call) → (Compresses c → (outcome st lent (ruling st lent c)).said.number ≢ 0) → Closes st (ruling st lent c)
  unfolding Reads.len_surject Reads.in_same_surject Reads.get_element Reads.get_shared Reads.get_size Reads.get_total Reads.lookup Reads.set_element Reads.set_shared Runs.new_run Runs.insert Runs.keeping Runs.union Runs.remove Drains.remove_shared Drains.list Drains.drain Drains.drain_all Drains.clear Drains.cleared Seals.seal Undo.undo Exchange.exchange Compress.compress Compress.compress_with WriteFile.write_file
  closes lent (len_surject k) n = on-live k _ (λ h. same)
  closes lent (in_same_surject j k) n = on-live j _ (λ h. on-live k _ (λ l. same))
  closes lent (get_element k) n = on-live k _ (λ h. same)
  closes lent (lookup k) n = on-live k _ (λ h. same)
  closes lent (get_shared k) n = on-live k _ (λ h. same)
  closes lent (get_size k) n = on-live k _ (λ h. same)
  closes lent (get_total k) n = on-live k _ (λ h. same)
  closes lent (set_element k payload) n = on-live k _ (λ h. closed_memory (view st) _ blank (set_closed k.slot payload h))
  closes lent (set_shared k value) n = on-live k _ (λ h. closed_same (view st) _ refl refl (search cols))
  closes lent check n = same
  closes lent write_file n = either (length lent <? length (bytes_in 1 st)) _ _ (λ e. tt) (λ e. same)
  closes lent (new_run payload value size) n =
      either (is_full st.head.shared) _ _ (λ e. tt) (λ e.
      either (is_full st.head.elems) _ _ (λ f. tt) (λ f. steady _ (begun_steady st R payload value (sized size) (room (working st R).elems f) (room (working st R).shared e))))
  closes lent (insert k payload size) n = on-live k _ (λ h. either (is_sealed st k.slot) _ _ (λ s. tt) (λ s.
      either (is_full st.head.elems) _ _ (λ f. tt) (λ f. steady _ (inserted_steady st R k.slot payload (sized size) h (room (working st R).elems f) (unmarked st R k.slot s)))))
  closes lent (union j k) n =
      let x = j.slot in
      let y = k.slot in
      on-live j _ (λ h. on-live k _ (λ l.
      either (class_of st.elems x == class_of st.elems y) _ _ (λ e. tt) (λ e.
      let apart = is-not ((view st).class x ≡ (view st).class y) ((view st).class x == (view st).class y) (eq_is ((view st).class x) ((view st).class y)) e in
      either (is_sealed st x) _ _ (λ s. tt) (λ sx. either (is_sealed st y) _ _ (λ s. tt) (λ sy.
      either (size_at st x <? size_at st y) _ _
      (λ f. closed_memory (view st) (Runs.joined st y x) _ (steady _ (joined_steady st R y x l h (λ q. apart (sym q)) (unmarked st R y sy) (unmarked st R x sx))))
      (λ f. closed_memory (view st) (Runs.joined st x y) _ (steady _ (joined_steady st R x y h l apart (unmarked st R x sx) (unmarked st R y sy)))))))))
  closes lent (remove k) n = on-live k _ (λ h. fewer _ (removed-fewer st R k.slot h))
  closes lent (remove_shared k) n = on-live k _ (λ h. fewer _ (ring_removed-fewer st R k.slot h))
  closes lent (list k) n = on-live k _ (λ h. either (is_short lent (size_at st k.slot) key_width) _ _ (λ e. tt) (λ e. same))
  closes lent (drain k) n = on-live k _ (λ h. either (is_short lent (size_at st k.slot) record_width) _ _ (λ e. tt) (λ e. fewer _ (drained-fewer (size_at st k.slot) st R k.slot h (omega arith))))
  closes lent (seal k) n = on-live k _ (λ h. either (is_sealed st k.slot) _ _ (λ s. tt) (λ s. either (is_short lent (size_at st k.slot) seal_width) _ _ (λ e. tt) (λ e. seal_closed st R ((view st).class k.slot) ((working st R).class-live k.slot h))))
  closes lent drain_all n = either (is_short lent st.head.elems.live record_width) _ _ (λ e. tt) (λ e. closed_empty (view st) _ _ _)
  closes lent clear n = closed_empty (view st) _ _ _
  closes lent undo n =
      let k = st.head.undo.kept in
      either (k == 0) _ _ (λ e. tt) (λ e. steady _ (back_steady st R (traced_memory st R M (is-not (k ≡ 0) (k == 0) (eq_is k 0) e))))
  closes lent (exchange keys values) n =
      by-keys (Closes st) (λ r. tt) st keys _ (λ xs a.
      let cs = map (class_of st.elems) xs in
      either (all_differ cs) _ _ (λ e. closed_memory (view st) _ blank (closed_same (view st) (view (with_shared st (valued st.shared cs values))) refl refl (valued-mark st.shared cs values))) (λ e. tt))
  closes lent (compress reset) n =
      by_test (λ r. (outcome st lent r).said.number ≢ 0 → Closes st r) (is_short lent st.head.elems.capacity frame_width) _ _ (λ e m. tt) (λ e m. absurd (m refl)) (n (canonical reset))
  closes lent (compress_with reset) n =
      by_test (λ r. (outcome st lent r).said.number ≢ 0 → Closes st r) (is_short lent st.head.elems.live pair_width) _ _ (λ e m. tt) (λ e m. absurd (m refl)) (n (kept reset))

-- fresh
pub closes-fresh : (st : State) (elems shared : ℕ) → Closes st (Slots.fresh st elems shared)
unfolding Slots.fresh
closes-fresh st elems shared = by_test (Closes st) (both_fit st elems shared) _ _ (λ e. closed_empty (view st) elems shared 1) (λ e. tt)
