-- Every call keeps a sound state: whatever is accepted or refused, shape and soundness hold after it.
use Rattle.std.specs.Prelude.{if◌then◌else◌, ◌==◌}
use mathlib.Core.Path.{◌≡◌, refl, sym}
use mathlib.Core.Logic.{◌≢◌}
use mathlib.Core.Bool.{Bool, true, false}
use mathlib.Core.List.{List, [], map}
use Prim.Native.Nat.{ℕ}
use native.Mathlib.Omega.{arith}
use lib.ListN.{length}
use Rattle.rules.specs.declared.Key.{Key}
use Rattle.rules.specs.declared.Refusal.TheVariants.{Shape}
use Rattle.rules.specs.Notation.{◌<?◌}
use Rattle.rules.specs.Tables.{sized, frame_width, class_of, State, size_at, is_sealed, blank}
use Rattle.rules.specs.Refusals
use Rattle.rules.specs.Refusals.{Ruling, refuse, accept, outcome, with_live}
use Rattle.rules.specs.Reads
use Rattle.rules.specs.Runs
use Rattle.rules.specs.Undo
use Rattle.rules.specs.Undo.{Remembers}
use Rattle.rules.specs.Drains
use Rattle.rules.specs.Drains.{is_short, key_width, record_width}
use Rattle.rules.specs.Seals
use Rattle.rules.specs.Seals.{seal_width}
use Rattle.rules.specs.Exchange
use Rattle.rules.specs.Exchange.{all_differ}
use Rattle.rules.specs.Sound.{both_fit}
use Rattle.rules.specs.Slots
use Rattle.rules.specs.Slots.{is_full}
use Rattle.rules.specs.Compress
use Rattle.rules.specs.Compress.{pair_width}
use Rattle.rules.specs.Keeping.{Effect, reads, joins, undoes, drops, effect}
use Rattle.rules.specs.WriteFile
use Rattle.rules.specs.WriteFile.{bytes_in}
use Rattle.rules.specs.Calls.{Call, len_surject, in_same_surject, get_element, get_shared, get_size, get_total, lookup, set_element, set_shared, check, new_run, insert, union, remove, remove_shared, list, drain, seal, drain_all, clear, undo, exchange, compress, compress_with, write_file, ruling, Ready, step, fresh_step}
use Rattle.rules.proofs.Laws.Lists.{all_map, all_image}
use Rattle.rules.proofs.Laws.Totals.{sized-most}
use Rattle.rules.proofs.Laws.Working.{view}
use Rattle.rules.proofs.Laws.Safe.{working}
use Rattle.rules.proofs.Laws.Stored.{room}
use Rattle.rules.proofs.Laws.Sets.{set_element-keeps, set_shared-keeps, exchange_keeps}
use Rattle.rules.proofs.Laws.NewRun.{new_run-keeps}
use Rattle.rules.proofs.Laws.Insert.{insert_keeps}
use Rattle.rules.proofs.Laws.Union.{joined_keeps}
use Rattle.rules.proofs.Laws.Remove.{remove_keeps}
use Rattle.rules.proofs.Laws.RemoveShared.{remove_shared-keeps}
use Rattle.rules.proofs.Laws.Empty.{clear_keeps, fresh_keeps}
use Rattle.rules.proofs.Laws.Sealed.{seal_keeps}
use Rattle.rules.proofs.Laws.Compress.{compress_keeps}
use Rattle.rules.proofs.Laws.Histories.Ranked.{with_keeps}
use Rattle.rules.proofs.Laws.Rulings.{live_at, by_test, by_key, by-keys}
use Rattle.rules.proofs.Laws.Tests.{eq_is, is-not}
use Rattle.rules.proofs.Laws.Remembering.{ready-undo}
use Rattle.rules.proofs.Laws.Dropped.{undo_keeps}
use Rattle.rules.proofs.Laws.Drained.{drain_keeps, drain_all-keeps}

-- a ruling after which the state is sound: a refusal, which leaves it, or one that accepts with such a state
abbrev Keeps : Ruling → Type 0
Keeps (refuse r) = Unit {0}
Keeps (accept values over st places) = Ready st

either : (b : Bool) (p q : Ruling) → (b ≡ true → Keeps p) → (b ≡ false → Keeps q) → Keeps (if b then p else q)
either = by_test Keeps

-- undo alone asks that what the head remembers is part of soundness
abbrev pub Recalled : Effect → State → Type 0
Recalled reads st = Unit {0}
Recalled joins st = Unit {0}
Recalled undoes st = Remembers st
Recalled drops st = Unit {0}

pub recalled : (e : Effect) (st : State) → Remembers st → Recalled e st
recalled reads st M = tt
recalled joins st M = tt
recalled undoes st M = M
recalled drops st M = tt

module _ (st : State) (R : Ready st) where
  on-live : (k : Key) (rule : ℕ → Ruling) → ((view st).gen k.slot ≢ 0 → Keeps (rule k.slot)) → Keeps (with_live st k rule)
  on-live k rule h = by_key Keeps (λ r. tt) st k rule (λ l. h (live_at st k l))

  keeps : (lent : List ℕ) (c : Call) → Recalled (effect c) st → Keeps (ruling st lent c)
  unfolding Reads.len_surject Reads.in_same_surject Reads.get_element Reads.get_shared Reads.get_size Reads.get_total Reads.lookup Reads.set_element Reads.set_shared Runs.new_run Runs.insert Runs.keeping Runs.union Runs.remove Drains.remove_shared Drains.list Drains.drain Drains.drain_all Drains.clear Seals.seal Exchange.exchange Compress.compress Compress.compress_with Undo.undo WriteFile.write_file
  keeps lent (len_surject k) M = on-live k _ (λ h. R)
  keeps lent (in_same_surject j k) M = on-live j _ (λ h. on-live k _ (λ l. R))
  keeps lent (get_element k) M = on-live k _ (λ h. R)
  keeps lent (lookup k) M = on-live k _ (λ h. R)
  keeps lent (get_shared k) M = on-live k _ (λ h. R)
  keeps lent (get_size k) M = on-live k _ (λ h. R)
  keeps lent (get_total k) M = on-live k _ (λ h. R)
  keeps lent (set_element k payload) M = on-live k _ (λ h. ready-undo _ blank (set_element-keeps st R k.slot payload h))
  keeps lent (set_shared k value) M = on-live k _ (λ h. ready-undo _ blank (set_shared-keeps st R ((view st).class k.slot) value ((working st R).class-live k.slot h)))
  keeps lent check M = R
  keeps lent write_file M = either (length lent <? length (bytes_in 1 st)) _ _ (λ e. tt) (λ e. R)
  keeps lent (new_run payload value size) M =
      either (is_full st.head.shared) _ _ (λ e. tt) (λ e.
      either (is_full st.head.elems) _ _ (λ f. tt) (λ f. new_run-keeps st R payload value (sized size) (room (working st R).elems f) (room (working st R).shared e) (sized-most size)))
  keeps lent (insert k payload size) M = on-live k _ (λ h. either (is_sealed st k.slot) _ _ (λ s. tt) (λ s. either (is_full st.head.elems) _ _ (λ f. tt) (λ f. insert_keeps st R k.slot payload (sized size) h (room (working st R).elems f) (sized-most size))))
  keeps lent (union j k) M =
      let x = j.slot in
      let y = k.slot in
      on-live j _ (λ h. on-live k _ (λ l.
      either (class_of st.elems x == class_of st.elems y) _ _ (λ e. tt) (λ e.
      let apart = is-not ((view st).class x ≡ (view st).class y) ((view st).class x == (view st).class y) (eq_is ((view st).class x) ((view st).class y)) e in
      either (is_sealed st x) _ _ (λ s. tt) (λ s. either (is_sealed st y) _ _ (λ s. tt) (λ s.
      either (size_at st x <? size_at st y) _ _ (λ f. ready-undo _ _ (joined_keeps st R y x l h (λ q. apart (sym q)))) (λ f. ready-undo _ _ (joined_keeps st R x y h l apart)))))))
  keeps lent (remove k) M = on-live k _ (λ h. remove_keeps st R k.slot h)
  keeps lent (remove_shared k) M = on-live k _ (λ h. remove_shared-keeps st R k.slot h)
  keeps lent (list k) M = on-live k _ (λ h. either (is_short lent (size_at st k.slot) key_width) _ _ (λ e. tt) (λ e. R))
  keeps lent (drain k) M = on-live k _ (λ h. either (is_short lent (size_at st k.slot) record_width) _ _ (λ e. tt) (λ e. drain_keeps (size_at st k.slot) st R k.slot h (omega arith)))
  keeps lent (seal k) M = on-live k _ (λ h. either (is_sealed st k.slot) _ _ (λ s. tt) (λ s. either (is_short lent (size_at st k.slot) seal_width) _ _ (λ e. tt) (λ e. seal_keeps st R ((view st).class k.slot) ((working st R).class-live k.slot h))))
  keeps lent drain_all M = either (is_short lent st.head.elems.live record_width) _ _ (λ e. tt) (λ e. clear_keeps _ (drain_all-keeps st.head.shared.live st R))
  keeps lent clear M = clear_keeps st R
  keeps lent undo M = either (st.head.undo.kept == 0) _ _ (λ e. tt) (λ e. undo_keeps st R M (is-not (st.head.undo.kept ≡ 0) (st.head.undo.kept == 0) (eq_is st.head.undo.kept 0) e))
  keeps lent (exchange keys values) M =
      by-keys Keeps (λ r. tt) st keys _ (λ xs a.
      let cs = map (class_of st.elems) xs in
      either (all_differ cs) _ _ (λ e. ready-undo _ blank (exchange_keeps cs values st R (all_image (class_of st.elems) (λ c. (view st).count c ≢ 0) xs (all_map (λ x l. (working st R).class-live x l) xs a)))) (λ e. tt))
  keeps lent (compress reset) M = either (is_short lent st.head.elems.capacity frame_width) _ _ (λ e. tt) (λ e. compress_keeps st reset R)
  keeps lent (compress_with reset) M = either (is_short lent st.head.elems.live pair_width) _ _ (λ e. tt) (λ e. with_keeps st reset R)

after : (st : State) (lent : List ℕ) (r : Ruling) → Ready st → Keeps r → Ready (outcome st lent r).state
after st lent (refuse r) R k = R
after st lent (accept values over next places) R k = k

-- every call, with any arguments and any lent buffer
pub kept : (st : State) → Ready st → (lent : List ℕ) (c : Call) → Recalled (effect c) st → Ready (step st lent c).state
kept st R lent c M = after st lent (ruling st lent c) R (keeps st R lent c M)

-- fresh, which needs no sound state: accepted, it gives one
pub kept_fresh : (st : State) (elems shared : ℕ) → (fresh_step st elems shared).said.number ≡ 0 → Ready (fresh_step st elems shared).state
unfolding Slots.fresh
kept_fresh st elems shared = go (both_fit st elems shared) (fresh_keeps st elems shared)
  where
    go : (b : Bool) → (b ≡ true → Ready (Slots.empty elems shared 1)) → (outcome st [] (if b then Refusals.answer [] (Slots.empty elems shared 1) else refuse Shape)).said.number ≡ 0
        → Ready (outcome st [] (if b then Refusals.answer [] (Slots.empty elems shared 1) else refuse Shape)).state
    go true f e = f refl
    go false f e = absurd (omega (arith, e))
