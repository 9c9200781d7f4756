-- Ticket 12: the book's claim of every move at the host's door, proved; and the histories of both sides.
use Rattle.std.specs.Prelude.{if◌then◌else◌, ◌==◌}
use mathlib.Core.Path.{◌≡◌, refl, sym, ap, ◌∙◌, subst}
use mathlib.Core.Logic.{◌≢◌, ◌⊎◌, inl, inr}
use mathlib.Core.Bool.{Bool, true, false, true≢false, ◌||◌}
use mathlib.Core.List.{[]}
use Prim.Native.Nat.{ℕ, suc, ◌+◌, ◌≤◌, ◌<◌}
use native.Mathlib.Omega.{arith}
use native.Mathlib.Decide.{ℕ_discrete, dec_lt}
use Rattle.rules.specs.declared.Refusal.{Refusal}
use Rattle.rules.specs.declared.Refusal.TheVariants.{Shape, Unsound, NoElement, NoShared, OutOfRange}
use Rattle.rules.specs.Notation.{◌<?◌}
use Rattle.rules.specs.Tables.{last_generation, State, blank, elem_side}
use Rattle.rules.specs.Refusals.{shaped}
use Rattle.rules.specs.Slots.{overflows, empty}
use Rattle.rules.specs.Drains
use Rattle.rules.specs.Drains.{cleared}
use Rattle.rules.specs.Undo.{Remembers, Whole}
use Rattle.rules.specs.Calls.{clear, Ready, Is, step}
use Rattle.rules.specs.Compress.{renumbered_in}
use Rattle.rules.specs.TwoTables.{TwoRuling, refuse, accept, TwoOutcome, two_outcome}
use Rattle.rules.specs.Move.{moved, is_none, transfer, transfer_step, AtMove}
use Rattle.rules.specs.Moving.{MoveGives, Transfers, Moving}
use Rattle.rules.specs.History.{History, frames, accepted, moved_into, noted_to, noted_from}
use Rattle.rules.proofs.Laws.Tests.{eq_is, le_is, is_true, is_false}
use Rattle.rules.proofs.Laws.Empty.{clear_keeps}
use Rattle.rules.proofs.Laws.Working.{view}
use Rattle.rules.proofs.Laws.Sides.{live_of}
use Rattle.rules.proofs.Laws.Safe.{working, safe}
use Rattle.rules.proofs.Laws.Described.{traced}
use Rattle.rules.proofs.Laws.Good.{Good}
use Rattle.rules.proofs.Laws.Recalls.{Recalls}
use Rattle.rules.proofs.Laws.Headers.{live-frames}
use Rattle.rules.proofs.Laws.Histories.Cleared.{good-clear}
use Rattle.rules.proofs.Laws.TwoDoors.{Met, source_1, target_1, sound_2, passes, met}
use Rattle.rules.proofs.Laws.Move.{Fitting, move-to, good-moved}

-- no frames, nothing to undo: what the head remembers has frames
pub empty-blank : (st : State) → Ready st → Remembers st → st.head.elems.live ≡ 0 → st.head.undo ≡ blank
empty-blank st R (inl e) n = e
empty-blank st R (inr d) n =
    let l = live_of (elem_side st) st.head.undo.kept (traced st R d).kept in
    absurd (omega (arith, n, ((safe st R).frames st.head.undo.kept (record { some = l.low; within = l.high; used = omega (arith, l.used) })).elems-live))

-- ---- the ways through the rule
module _ (target source : State) (g : ℕ) where
  abbrev a : ℕ
  a = target.head.elems.capacity

  abbrev b : ℕ
  b = target.head.shared.capacity

  abbrev n : ℕ
  n = source.head.elems.live

  none_is : (g ≡ 0) ⊎ (last_generation < g) → is_none g ≡ true
  unfolding is_none
  none_is (inl e) = rw (is_true (g == 0) (eq_is g 0) e)
  none_is (inr l) = rw (is_true (last_generation <? g) (le_is (suc last_generation) g) l) (go (g == 0))
    where
      go : (p : Bool) → (p || true) ≡ true
      go true = refl
      go false = refl

  some_is : 1 ≤ g → g ≤ last_generation → is_none g ≡ false
  unfolding is_none
  some_is l h = rw (is_false (g == 0) (eq_is g 0) (λ e. omega arith), is_false (last_generation <? g) (le_is (suc last_generation) g) (λ k. omega arith))

  room-is : source.head.elems.live ≤ target.head.elems.capacity → (target.head.elems.capacity <? source.head.elems.live) ≡ false
  room-is l = is_false (a <? n) (le_is (suc a) n) (λ k. omega arith)

  shared-is : source.head.shared.live ≤ target.head.shared.capacity → (target.head.shared.capacity <? source.head.shared.live) ≡ false
  shared-is l = is_false (b <? source.head.shared.live) (le_is (suc b) source.head.shared.live) (λ k. omega arith)

  pub move_13 : (g ≡ 0) ⊎ (last_generation < g) → transfer target source g ≡ refuse OutOfRange
  unfolding transfer
  move_13 h = rw (none_is h)

  pub move_5 : 1 ≤ g → g ≤ last_generation → target.head.elems.capacity < source.head.elems.live → transfer target source g ≡ refuse NoElement
  unfolding transfer
  move_5 l h k = rw (some_is l h, is_true (a <? n) (le_is (suc a) n) k)

  pub move_6 : 1 ≤ g → g ≤ last_generation → source.head.elems.live ≤ target.head.elems.capacity → target.head.shared.capacity < source.head.shared.live → transfer target source g ≡ refuse NoShared
  unfolding transfer
  move_6 l h k m = rw (some_is l h, room-is k, is_true (b <? source.head.shared.live) (le_is (suc b) source.head.shared.live) m)

  module _ (F : Fitting target source g) where
    pub move-none : source.head.elems.live ≡ 0 → transfer target source g ≡ accept false (moved target source g) source
    unfolding transfer
    move-none e = rw (some_is F.least F.most, room-is F.elems, shared-is F.shared, is_true (n == 0) (eq_is n 0) e)

    pub move_some : source.head.elems.live ≢ 0 → transfer target source g ≡ accept (overflows source) (moved target source g) (cleared source)
    unfolding transfer
    move_some e = rw (some_is F.least F.most, room-is F.elems, shared-is F.shared, is_false (n == 0) (eq_is n 0) e)

  -- ---- what holds of each outcome
  refused-by : (r : Refusal) (k : ℕ) → (two_outcome target source (refuse r)).said.number ≡ suc k → MoveGives target source g (two_outcome target source (refuse r)).said.number → Transfers target source g (two_outcome target source (refuse r))
  refused-by r k e h = record { gives = h; refused = λ _. (refl, refl, refl); to = λ z. absurd (omega (arith, e, z)); from = λ z. absurd (omega (arith, e, z)); fall = λ z. absurd (omega (arith, e, z)) }

  module _ (s : shaped source ≡ true) (t : shaped target ≡ true) where
    abbrev ns : shaped source ≡ false → ⊥
    ns q = true≢false (sym s ∙ q)

    abbrev nt : shaped target ≡ false → ⊥
    nt q = true≢false (sym t ∙ q)

    module _ (S : Whole source) (Q : Whole target) where
      abbrev after : (x : ℕ) → Type 0
      after x = MoveGives target source g x

      R : Ready source
      R = record { shape = s; sound = S.0 }

      in_range : 1 ≤ g → g ≤ last_generation → (g ≡ 0) ⊎ (last_generation < g) → ⊥
      in_range l h (inl e) = omega arith
      in_range l h (inr k) = omega arith

      done : (F : Fitting target source g) → after 0
      done F = inr (ns, inr (nt, inr ((λ k. k (S, Q)), inr (in_range F.least F.most, inr ((λ k. omega (arith, F.elems, k)), inr ((λ k. omega (arith, F.shared, k)), refl))))))

      none : (F : Fitting target source g) → source.head.elems.live ≡ 0 → Transfers target source g (two_outcome target source (accept false (moved target source g) source))
      unfolding renumbered_in
      none F e = record {
        gives = done F;
        refused = λ z. absurd (z refl);
        to = λ _. move-to target source g F t R;
        from = λ _. record { empty = λ _. (refl, refl); cleared = λ z. absurd (z e); ready = R; undo = empty-blank source R S.1 e };
        fall = λ _. omega (arith, e);
      }

      some : (F : Fitting target source g) → source.head.elems.live ≢ 0 → Transfers target source g (two_outcome target source (accept (overflows source) (moved target source g) (cleared source)))
      unfolding renumbered_in Drains.clear cleared empty
      some F e = record {
        gives = done F;
        refused = λ z. absurd (z refl);
        to = λ _. move-to target source g F t R;
        from = λ _. record { empty = λ z. absurd (e z); cleared = λ _. (refl, refl); ready = clear_keeps source R; undo = refl };
        fall = λ _. omega arith;
      }

      ruled : Transfers target source g (transfer_step target source g)
      ruled = go (dec_lt last_generation g) (ℕ_discrete g 0) (dec_lt a n) (dec_lt b source.head.shared.live) (ℕ_discrete n 0)
        where
          out : (g ≡ 0) ⊎ (last_generation < g) → Transfers target source g (transfer_step target source g)
          out h = rw (move_13 h) (refused-by OutOfRange 12 refl (inr (ns, inr (nt, inr ((λ k. k (S, Q)), inl (h, refl))))))

          go : Dec (last_generation < g) → Dec (g ≡ 0) → Dec (a < n) → Dec (b < source.head.shared.live) → Dec (n ≡ 0) → Transfers target source g (transfer_step target source g)
          go (yes l) z k m e = out (inr l)
          go (no l) (yes z) k m e = out (inl z)
          go (no l) (no z) (yes k) m e = rw (move_5 (omega arith) (omega arith) k) (refused-by NoElement 4 refl (inr (ns, inr (nt, inr ((λ k. k (S, Q)), inr (in_range (omega arith) (omega arith), inl (k, refl)))))))
          go (no l) (no z) (no k) (yes m) e = rw (move_6 (omega arith) (omega arith) (omega arith) m) (refused-by NoShared 5 refl (inr (ns, inr (nt, inr ((λ k. k (S, Q)), inr (in_range (omega arith) (omega arith), inr (k, inl (m, refl))))))))
          go (no l) (no z) (no k) (no m) (yes e) = let F : Fitting target source g = record { least = omega arith; most = omega arith; elems = omega arith; shared = omega arith } in rw (move-none F e) (none F e)
          go (no l) (no z) (no k) (no m) (no e) = let F : Fitting target source g = record { least = omega arith; most = omega arith; elems = omega arith; shared = omega arith } in rw (move_some F e) (some F e)

-- THE CLAIM
pub moving : Moving
moving target source g o d = go (met target source (Whole source × Whole target) (transfer target source g) o d)
  where
    of : {q : TwoOutcome} → o ≡ q → Transfers target source g q → Transfers target source g o
    of e c = subst (λ (p : TwoOutcome). Transfers target source g p) (sym e) c

    go : Met target source (Whole source × Whole target) (transfer target source g) o → Transfers target source g o
    go (source_1 s e) = of e (refused-by target source g Shape 0 refl (inl (s, refl)))
    go (target_1 s t e) = of e (refused-by target source g Shape 0 refl (inr ((λ q. true≢false (sym s ∙ q)), inl (t, refl))))
    go (sound_2 s t n e) = of e (refused-by target source g Unsound 1 refl (inr ((λ q. true≢false (sym s ∙ q)), inr ((λ q. true≢false (sym t ∙ q)), inl (n, refl)))))
    go (passes s t (S, Q) e) = of e (ruled target source g s t S Q)

-- ---- the histories. An accepted move, as the rule has it
pub record Accepted (target source : State) (g : ℕ) (o : TwoOutcome) : Type 0 where
  pub shape : shaped target ≡ true
  pub fitting : Fitting target source g
  pub lands : o.target ≡ moved target source g

pub accepted-is : (target source : State) (g : ℕ) (o : TwoOutcome) → AtMove target source g o → o.said.number ≡ 0 → Accepted target source g o
accepted-is target source g o d z = go (met target source (Whole source × Whole target) (transfer target source g) o d)
  where
    not_0 : {k : ℕ} → o.said.number ≡ suc k → Accepted target source g o
    not_0 e = absurd (omega (arith, z, e))

    number : {q : TwoOutcome} → o ≡ q → o.said.number ≡ q.said.number
    number e = ap (λ (p : TwoOutcome). p.said.number) e

    ruled_by : {r : TwoRuling} → o ≡ transfer_step target source g → transfer target source g ≡ r → o ≡ two_outcome target source r
    ruled_by e q = e ∙ ap (two_outcome target source) q

    fits : shaped target ≡ true → o ≡ transfer_step target source g → Fitting target source g → Dec (source.head.elems.live ≡ 0) → Accepted target source g o
    fits t e F (yes k) = record { shape = t; fitting = F; lands = ap (λ (p : TwoOutcome). p.target) (ruled_by e (move-none target source g F k)) }
    fits t e F (no k) = record { shape = t; fitting = F; lands = ap (λ (p : TwoOutcome). p.target) (ruled_by e (move_some target source g F k)) }

    tests : shaped target ≡ true → o ≡ transfer_step target source g → Dec (last_generation < g) → Dec (g ≡ 0) → Dec (target.head.elems.capacity < source.head.elems.live) → Dec (target.head.shared.capacity < source.head.shared.live) → Accepted target source g o
    tests t e (yes l) h k m = not_0 (number (ruled_by e (move_13 target source g (inr l))))
    tests t e (no l) (yes h) k m = not_0 (number (ruled_by e (move_13 target source g (inl h))))
    tests t e (no l) (no h) (yes k) m = not_0 (number (ruled_by e (move_5 target source g (omega arith) (omega arith) k)))
    tests t e (no l) (no h) (no k) (yes m) = not_0 (number (ruled_by e (move_6 target source g (omega arith) (omega arith) (omega arith) m)))
    tests t e (no l) (no h) (no k) (no m) = fits t e (record { least = omega arith; most = omega arith; elems = omega arith; shared = omega arith }) (ℕ_discrete source.head.elems.live 0)

    go : Met target source (Whole source × Whole target) (transfer target source g) o → Accepted target source g o
    go (source_1 s e) = not_0 (number e)
    go (target_1 s t e) = not_0 (number e)
    go (sound_2 s t q e) = not_0 (number e)
    go (passes s t q e) = tests t e (dec_lt last_generation g) (ℕ_discrete g 0) (dec_lt target.head.elems.capacity source.head.elems.live) (dec_lt target.head.shared.capacity source.head.shared.live)

-- for the target it puts the frames in, whatever its history was; and there is nothing to undo
pub good_move_in : {st : State} {h : History} → Good st h → (target : State) (t : History) → frames t + t.taken ≡ t.put → (g : ℕ) (o : TwoOutcome) → AtMove target st g o → o.said.number ≡ 0 → Good o.target (moved_into t h g) × Recalls o.target (moved_into t h g)
good_move_in {st} {h} G target t c g o d e =
    let A = accepted-is target st g o d e in
    (subst (λ (q : State). Good q (moved_into t h g)) (sym A.lands) (good-moved target st g A.fitting A.shape t h c G), inl ((moving target st g o d).to e).undo)

pub good_move_to : {st target : State} {h t : History} → Good st h → Good target t → Recalls target t → (g : ℕ) (o : TwoOutcome) → AtMove target st g o → Good o.target (noted_to t h g o.said) × Recalls o.target (noted_to t h g o.said)
good_move_to {st} {target} {h} {t} G N M g o d = go (o.said.number == 0) (eq_is o.said.number 0)
  where
    go : (b : Bool) → Is (o.said.number ≡ 0) b → let t' = if b then moved_into t h g else t in Good o.target t' × Recalls o.target t'
    go true z = good_move_in G target t N.counts g o d z
    go false z = subst (λ (q : State). Good q t × Recalls q t) (sym ((moving target st g o d).refused z).0) (N, M)

-- for the source it is a clear, if it has frames; refused, what it remembers stays
cleared-good : {st : State} {h : History} → Good st h → Good (step st [] clear).state (accepted h clear [])
unfolding Drains.clear
cleared-good {st} {h} G = good-clear st h G []

pub good_move_from : {st : State} {h : History} → Good st h → Recalls st h → (target : State) (g : ℕ) (o : TwoOutcome) → AtMove target st g o → Good o.source (noted_from h o.said) × Recalls o.source (noted_from h o.said)
good_move_from {st} {h} G M target g o d = go (o.said.number == 0) (eq_is o.said.number 0)
  where
    T : Transfers target st g o
    T = moving target st g o d

    n : frames h ≡ st.head.elems.live
    n = sym (live-frames (view st) (working st G.ready) h.runs G.rings)

    left : (b : Bool) → Is (frames h ≡ 0) b → o.said.number ≡ 0 → Good o.source (if b then h else accepted h clear [])
    left true e z = subst (λ (q : State). Good q h) (sym ((T.from z).empty (sym n ∙ e)).0) G
    left false e z = subst (λ (q : State). Good q (accepted h clear [])) (sym ((T.from z).cleared (λ q. e (n ∙ q))).0) (cleared-good G)

    go : (b : Bool) → Is (o.said.number ≡ 0) b → let h' = if b then (if frames h == 0 then h else accepted h clear []) else h in Good o.source h' × Recalls o.source h'
    go true z = (left (frames h == 0) (eq_is (frames h) 0) z, inl (T.from z).undo)
    go false z = subst (λ (q : State). Good q h × Recalls q h) (sym (T.refused z).1) (G, M)
