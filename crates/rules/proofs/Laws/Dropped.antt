-- Every rule obeys the sentence of what a call makes of what the head remembers (Keeping); and so that stays part of soundness.
use Rattle.std.specs.Prelude.{if◌then◌else◌, ◌==◌}
use mathlib.Core.Path.{◌≡◌, refl, sym, ap, subst, ◌∙◌}
use mathlib.Core.Logic.{◌≢◌, inl, inr}
use mathlib.Core.Bool.{Bool, true, false}
use mathlib.Core.List.{List, map}
use Prim.Native.Nat.{ℕ, zero, suc, ◌≤◌}
use native.Mathlib.Omega.{arith}
use lib.ListN.{length}
use Rattle.rules.specs.declared.Key.{Key}
use Rattle.rules.specs.Notation.{◌<?◌}
use Rattle.rules.specs.Tables.{frame_width, blank, State, elem_side, class_of, next_of, size_at, is_sealed}
use Rattle.rules.specs.Sound.{Frame}
use Rattle.rules.specs.Refusals.{Ruling, refuse, accept, outcome, with_live}
use Rattle.rules.specs.Reads
use Rattle.rules.specs.Slots
use Rattle.rules.specs.Slots.{is_full}
use Rattle.rules.specs.Runs
use Rattle.rules.specs.Runs.{joined, remembered, removed}
use Rattle.rules.specs.Undo
use Rattle.rules.specs.Undo.{taken_back, Describes, Remembers}
use Rattle.rules.specs.Drains
use Rattle.rules.specs.Drains.{drained, is_short, key_width, record_width}
use Rattle.rules.specs.Seals
use Rattle.rules.specs.Seals.{seal_width}
use Rattle.rules.specs.Exchange
use Rattle.rules.specs.Exchange.{all_differ}
use Rattle.rules.specs.Compress
use Rattle.rules.specs.Compress.{pair_width}
use Rattle.rules.specs.Keeping.{Effect, reads, joins, undoes, drops, effect, Joins, Then, Accepted, Keeping}
use Rattle.rules.specs.WriteFile
use Rattle.rules.specs.WriteFile.{bytes_in}
use Rattle.rules.specs.Calls.{Call, len_surject, in_same_surject, get_element, get_shared, get_size, get_total, lookup, set_element, set_shared, check, new_run, insert, union, remove, remove_shared, list, drain, seal, drain_all, clear, undo, exchange, compress, compress_with, write_file, ruling, Ready, step}
use Rattle.rules.proofs.Laws.Tests.{eq_is, le_is, is-not, is_so}
use Rattle.rules.proofs.Laws.Pools.{live_in}
use Rattle.rules.proofs.Laws.Sides.{live_of, live_to}
use Rattle.rules.proofs.Laws.Working.{view}
use Rattle.rules.proofs.Laws.Soundness.{shaped_of, shaped_to}
use Rattle.rules.proofs.Laws.Safe.{working}
use Rattle.rules.proofs.Laws.Stored.{shaped-still}
use Rattle.rules.proofs.Laws.Rulings.{live_at, by_test, by_key, by-keys}
use Rattle.rules.proofs.Laws.Steady.{unmarked}
use Rattle.rules.proofs.Laws.Undo.{taken_back-still}
use Rattle.rules.proofs.Laws.Traced.{after-ready, union_traced}
use Rattle.rules.proofs.Laws.Described.{describes}

drained_drops : (n : ℕ) (st : State) (x : ℕ) → (n ≡ 0 → st.head.undo ≡ blank) → (drained n st x).head.undo ≡ blank
unfolding drained Runs.removed Slots.raise
drained_drops zero st x e = e refl
drained_drops (suc n) st x e = drained_drops n (removed st x) (next_of st.elems x) (λ q. refl)

module _ (st : State) (R : Ready st) where
  -- by the rule's tests and keys
  module _ (P : State → Type 0) where
    either : (b : Bool) (p q : Ruling) → (b ≡ true → Accepted P p) → (b ≡ false → Accepted P q) → Accepted P (if b then p else q)
    either = by_test (Accepted P)

    on-live : (k : Key) (rule : ℕ → Ruling) → ((view st).gen k.slot ≢ 0 → Accepted P (rule k.slot)) → Accepted P (with_live st k rule)
    on-live k rule h = by_key (Accepted P) (λ r. tt) st k rule (λ l. h (live_at st k l))

  frame : (x : ℕ) → (view st).gen x ≢ 0 → Frame st x
  frame x h = let i = live_in (working st R).elems x h in live_to (elem_side st) x (record { low = i.0; high = i.1; used = h })

  pub memory_then : (lent : List ℕ) (c : Call) → Accepted (Then (effect c) st) (ruling st lent c)
  unfolding Reads.len_surject Reads.in_same_surject Reads.get_element Reads.get_shared Reads.get_size Reads.get_total Reads.lookup Reads.set_element Reads.set_shared Runs.new_run Runs.begun Runs.insert Runs.inserted Runs.keeping Runs.union Runs.remove Runs.removed Drains.remove_shared Drains.list Drains.drain Drains.drain_all Drains.clear Drains.cleared Seals.seal Seals.sealed Slots.empty Slots.raise Undo.undo Undo.taken_back Exchange.exchange Compress.compress Compress.compress_with Compress.renumbered_in WriteFile.write_file
  memory_then lent (len_surject k) = on-live (Then reads st) k _ (λ h. refl)
  memory_then lent (in_same_surject j k) = on-live (Then reads st) j _ (λ h. on-live (Then reads st) k _ (λ l. refl))
  memory_then lent (get_element k) = on-live (Then reads st) k _ (λ h. refl)
  memory_then lent (get_shared k) = on-live (Then reads st) k _ (λ h. refl)
  memory_then lent (get_size k) = on-live (Then reads st) k _ (λ h. refl)
  memory_then lent (get_total k) = on-live (Then reads st) k _ (λ h. refl)
  memory_then lent (lookup k) = on-live (Then reads st) k _ (λ h. refl)
  memory_then lent (list k) = on-live (Then reads st) k _ (λ h. either (Then reads st) (is_short lent (size_at st k.slot) key_width) _ _ (λ e. tt) (λ e. refl))
  memory_then lent check = refl
  memory_then lent write_file = either (Then reads st) (length lent <? length (bytes_in 1 st)) _ _ (λ e. tt) (λ e. refl)
  memory_then lent (union j k) =
      let x = j.slot in
      let y = k.slot in
      on-live (Joins st) j _ (λ h. on-live (Joins st) k _ (λ l.
      either (Joins st) (class_of st.elems x == class_of st.elems y) _ _ (λ e. tt) (λ e.
      let apart = is-not ((view st).class x ≡ (view st).class y) ((view st).class x == (view st).class y) (eq_is ((view st).class x) ((view st).class y)) e in
      either (Joins st) (is_sealed st x) _ _ (λ s. tt) (λ sx. either (Joins st) (is_sealed st y) _ _ (λ s. tt) (λ sy.
      let less = le_is (suc (size_at st x)) (size_at st y) in
      either (Joins st) (size_at st x <? size_at st y) _ _
      (λ f. let m = is_so (suc (size_at st x) ≤ size_at st y) (size_at st x <? size_at st y) less f in record { x = y; y = x; frame-x = frame y l; frame-y = frame x h; apart = λ q. apart (sym q); small = omega arith; unsealed-x = unmarked st R y sy; unsealed-y = unmarked st R x sx; now = refl })
      (λ f. let m = is-not (suc (size_at st x) ≤ size_at st y) (size_at st x <? size_at st y) less f in record { x = x; y = y; frame-x = frame x h; frame-y = frame y l; apart = apart; small = omega arith; unsealed-x = unmarked st R x sx; unsealed-y = unmarked st R y sy; now = refl }))))))
  memory_then lent (set_element k payload) = on-live (Then drops st) k _ (λ h. refl)
  memory_then lent (set_shared k value) = on-live (Then drops st) k _ (λ h. refl)
  memory_then lent (new_run payload value size) = either (Then drops st) (is_full st.head.shared) _ _ (λ e. tt) (λ e. either (Then drops st) (is_full st.head.elems) _ _ (λ f. tt) (λ f. refl))
  memory_then lent (insert k payload size) = on-live (Then drops st) k _ (λ h. either (Then drops st) (is_sealed st k.slot) _ _ (λ f. tt) (λ f. either (Then drops st) (is_full st.head.elems) _ _ (λ f. tt) (λ f. refl)))
  memory_then lent (remove k) = on-live (Then drops st) k _ (λ h. refl)
  memory_then lent (remove_shared k) = on-live (Then drops st) k _ (λ h. refl)
  memory_then lent (drain k) = on-live (Then drops st) k _ (λ h. either (Then drops st) (is_short lent (size_at st k.slot) record_width) _ _ (λ e. tt)
      (λ e. drained_drops (size_at st k.slot) st k.slot (λ q. absurd ((working st R).class-live k.slot h q))))
  memory_then lent (seal k) = on-live (Then drops st) k _ (λ h. either (Then drops st) (is_sealed st k.slot) _ _ (λ f. tt) (λ f. either (Then drops st) (is_short lent (size_at st k.slot) seal_width) _ _ (λ f. tt) (λ f. refl)))
  memory_then lent drain_all = either (Then drops st) (is_short lent st.head.elems.live record_width) _ _ (λ e. tt) (λ e. refl)
  memory_then lent clear = refl
  memory_then lent undo = either (Then undoes st) (st.head.undo.kept == 0) _ _ (λ e. tt) (λ e. refl)
  memory_then lent (exchange keys values) = by-keys (Accepted (Then drops st)) (λ r. tt) st keys _ (λ xs a. either (Then drops st) (all_differ (map (class_of st.elems) xs)) _ _ (λ e. refl) (λ e. tt))
  memory_then lent (compress reset) = either (Then drops st) (is_short lent st.head.elems.capacity frame_width) _ _ (λ e. tt) (λ e. refl)
  memory_then lent (compress_with reset) = either (Then drops st) (is_short lent st.head.elems.live pair_width) _ _ (λ e. tt) (λ e. refl)

-- THE LAW: every rule obeys the sentence
pub every_rule : Keeping
every_rule = memory_then

-- undo leaves nothing further to undo
pub taken-blank : (st : State) → (taken_back st).head.undo ≡ blank
unfolding taken_back
taken-blank st = refl

-- so what is remembered stays part of soundness
pub joins_describes : (st st' : State) → Ready st → Joins st st' → Describes st'
joins_describes st st' R J =
    let hx = (live_of (elem_side st) J.x J.frame-x).used in
    let hy = (live_of (elem_side st) J.y J.frame-y).used in
    rw J.now (describes _ (after-ready st R J.x J.y hx hy J.apart) (union_traced st R J.x J.y hx hy J.apart J.small J.unsealed-x))

pub kept_memory : (st : State) → Ready st → Remembers st → (lent : List ℕ) (c : Call) → Remembers (step st lent c).state
kept_memory st R M lent c = go (ruling st lent c) (memory_then st R lent c)
  where
    by : (e : Effect) (st' : State) → Then e st st' → Remembers st'
    by reads st' q = subst (λ (s : State). Remembers s) (sym q) M
    by joins st' J = inr (joins_describes st st' R J)
    by undoes st' q = inl (ap (λ (s : State). s.head.undo) q ∙ taken-blank st)
    by drops st' q = inl q

    go : (r : Ruling) → Accepted (Then (effect c) st) r → Remembers (outcome st lent r).state
    go (refuse r) t = M
    go (accept values over st' places) t = by (effect c) st' t

-- and undo keeps a sound state
pub undo_keeps : (st : State) → Ready st → Remembers st → st.head.undo.kept ≢ 0 → Ready (taken_back st)
undo_keeps st R (inl e) n = absurd (n (ap (λ m. m.kept) e))
undo_keeps st R (inr D) n = record { shape = shaped_to (taken_back st) (shaped-still (taken_back-still st) (shaped_of st R.shape)); sound = D.sound }
