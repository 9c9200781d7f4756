-- Ticket 10: the book's claim of every copy at the host's door, proved.
use mathlib.Core.Path.{◌≡◌, refl, sym, ap, ◌∙◌, subst}
use mathlib.Core.Logic.{◌⊎◌, inl, inr}
use mathlib.Core.Bool.{true, false, true≢false}
use Prim.Native.Nat.{ℕ, suc, ◌≤◌, ◌<◌}
use native.Mathlib.Omega.{arith}
use native.Mathlib.Decide.{dec_lt}
use lib.Dec.{T}
use Rattle.rules.specs.declared.Refusal.TheVariants.{Shape, Unsound, NoElement, NoShared}
use Rattle.rules.specs.Notation.{◌<?◌}
use Rattle.rules.specs.Tables.{most_slots, State, Side, field_of, elem_side, shared_side, is_live}
use Rattle.rules.specs.Refusals.{shaped}
use Rattle.rules.specs.Undo.{Whole}
use Rattle.rules.specs.Calls.{Ready}
use Rattle.rules.specs.TwoTables.{TwoRuling, refuse, accept, TwoOutcome, two_outcome}
use Rattle.rules.specs.Copy.{last_live, copied_pool, copied, clone_from, AtCopy}
use Rattle.rules.specs.Copying.{CopyGives, CopyOf, Copies, Copying}
use Rattle.rules.proofs.Laws.Tests.{le_is, is_true, is_false}
use Rattle.rules.proofs.Laws.Sides.{live_of}
use Rattle.rules.proofs.Laws.Working.{view, Working}
use Rattle.rules.proofs.Laws.Pools.{Pooled}
use Rattle.rules.proofs.Laws.Soundness.{shaped_of}
use Rattle.rules.proofs.Laws.Safe.{working}
use Rattle.rules.proofs.Laws.Copied.{last-live, live-last, copied-rising}
use Rattle.rules.proofs.Laws.Copy.{Roomy, copy_keeps, copy-runs}
use Rattle.rules.proofs.Laws.CopyReads.{same_live, same-header, copy-keys, copy-causes, reads-alike}
use Rattle.rules.proofs.Laws.TwoDoors.{Met, source_1, target_1, sound_2, passes, met}

-- the range of a shaped state's capacities
pub capacities : (st : State) → shaped st ≡ true → (1 ≤ st.head.elems.capacity) × (st.head.elems.capacity ≤ most_slots) × (1 ≤ st.head.shared.capacity) × (st.head.shared.capacity ≤ most_slots)
capacities st e = let H = shaped_of st e in (H.elems.some, H.elems.small, H.shared.some, H.shared.small)

-- a live slot exceeds a capacity exactly if the last one does
module _ (t : Side) (P : Pooled t.pool (field_of t t.used) (field_of t t.link)) (capacity : ℕ) where
  pub past_of : capacity < last_live t → (s : ℕ) × T (is_live t s) × (capacity < s)
  past_of l = go (last-live t t.pool.extent)
    where
      go : (last_live t ≡ 0) ⊎ T (is_live t (last_live t)) → (s : ℕ) × T (is_live t s) × (capacity < s)
      go (inl e) = absurd (omega (arith, e))
      go (inr h) = (last_live t, h, l)

  pub none-past : last_live t ≤ capacity → (s : ℕ) × T (is_live t s) × (capacity < s) → ⊥
  none-past l h = omega (arith, live-last t P h.0 (live_of t h.0 h.1).used, h.2)

-- ---- the ways through the rule
module _ (target source : State) where
  abbrev a : ℕ
  a = target.head.elems.capacity

  abbrev b : ℕ
  b = target.head.shared.capacity

  pub clone_5 : target.head.elems.capacity < last_live (elem_side source) → clone_from target source ≡ refuse NoElement
  unfolding clone_from
  clone_5 h = rw (is_true (a <? last_live (elem_side source)) (le_is (suc a) (last_live (elem_side source))) h)

  pub clone_6 : last_live (elem_side source) ≤ target.head.elems.capacity → target.head.shared.capacity < last_live (shared_side source) → clone_from target source ≡ refuse NoShared
  unfolding clone_from
  clone_6 l h = rw (is_false (a <? last_live (elem_side source)) (le_is (suc a) (last_live (elem_side source))) (λ k. omega arith), is_true (b <? last_live (shared_side source)) (le_is (suc b) (last_live (shared_side source))) h)

  pub clone_done : Roomy target.head.elems.capacity target.head.shared.capacity source → clone_from target source ≡ accept false (copied target.head.elems.capacity target.head.shared.capacity source) source
  unfolding clone_from
  clone_done M = rw (is_false (a <? last_live (elem_side source)) (le_is (suc a) (last_live (elem_side source))) (λ h. omega (arith, M.elems)), is_false (b <? last_live (shared_side source)) (le_is (suc b) (last_live (shared_side source))) (λ h. omega (arith, M.shared)))

  -- ---- what holds of each outcome
  refused_1 : (shaped source ≡ false) ⊎ ((shaped source ≡ true) × (shaped target ≡ false)) → Copies target source (two_outcome target source (refuse Shape))
  refused_1 h = record { gives = gives h; unchanged = refl; refused = λ _. refl; copy = λ e. absurd (omega (arith, e)); elems = refl; shared = refl }
    where
      gives : (shaped source ≡ false) ⊎ ((shaped source ≡ true) × (shaped target ≡ false)) → CopyGives target source 1
      gives (inl e) = inl (e, refl)
      gives (inr (s, e)) = inr ((λ q. true≢false (sym s ∙ q)), inl (e, refl))

  module _ (s : shaped source ≡ true) (t : shaped target ≡ true) where
    fits : (shaped source ≡ false → ⊥) × (shaped target ≡ false → ⊥)
    fits = ((λ q. true≢false (sym s ∙ q)), λ q. true≢false (sym t ∙ q))

    refused_2 : (Whole source → ⊥) → Copies target source (two_outcome target source (refuse Unsound))
    refused_2 n = record { gives = inr (fits.0, inr (fits.1, inl (n, refl))); unchanged = refl; refused = λ _. refl; copy = λ e. absurd (omega (arith, e)); elems = refl; shared = refl }

    module _ (S : Whole source) where
      R : Ready source
      R = record { shape = s; sound = S.0 }

      W : Working (view source)
      W = working source R

      refused_5 : a < last_live (elem_side source) → Copies target source (two_outcome target source (refuse NoElement))
      refused_5 h = record { gives = inr (fits.0, inr (fits.1, inr ((λ n. n S), inl (past_of (elem_side source) W.elems a h, refl)))); unchanged = refl; refused = λ _. refl; copy = λ e. absurd (omega (arith, e)); elems = refl; shared = refl }

      refused_6 : last_live (elem_side source) ≤ a → b < last_live (shared_side source) → Copies target source (two_outcome target source (refuse NoShared))
      refused_6 l h = record {
        gives = inr (fits.0, inr (fits.1, inr ((λ n. n S), inr (none-past (elem_side source) W.elems a l, inl (past_of (shared_side source) W.shared b h, refl)))));
        unchanged = refl;
        refused = λ _. refl;
        copy = λ e. absurd (omega (arith, e));
        elems = refl;
        shared = refl;
      }

      pub copy_of : Roomy target.head.elems.capacity target.head.shared.capacity source → CopyOf source (copied target.head.elems.capacity target.head.shared.capacity source)
      unfolding copied_pool
      copy_of M =
          let R' = copy_keeps a b source R (capacities target t) M in
          record {
            ready = R';
            keys = copy-keys a b source W M R R';
            runs = copy-runs a b source W M;
            generation = refl;
            undo = refl;
            extents = (extent-live (λ q. rw (same_live a b source W M (last_live (elem_side source))) q) (last-live (elem_side source) source.head.elems.extent), extent-live (λ q. rw (same-header a b source W M (last_live (shared_side source))) q) (last-live (shared_side source) source.head.shared.extent));
            rising = (copied-rising (elem_side source) W.elems a (omega arith), copied-rising (shared_side source) W.shared b (omega arith));
            alike = reads-alike a b source W M;
            causes = copy-causes a b source W M;
          }
        where
          extent-live : {P Q : Type 0} {n : ℕ} → (P → Q) → (n ≡ 0) ⊎ P → (n ≡ 0) ⊎ Q
          extent-live f (inl e) = inl e
          extent-live f (inr p) = inr (f p)

      done : Roomy a b source → Copies target source (two_outcome target source (accept false (copied a b source) source))
      unfolding copied_pool
      done M = record {
        gives = inr (fits.0, inr (fits.1, inr ((λ n. n S), inr (none-past (elem_side source) W.elems a M.elems, inr (none-past (shared_side source) W.shared b M.shared, refl)))));
        unchanged = refl;
        refused = λ n. absurd (n refl);
        copy = λ e. copy_of M;
        elems = refl;
        shared = refl;
      }

      ruled : Copies target source (two_outcome target source (clone_from target source))
      ruled = go (dec_lt a (last_live (elem_side source))) (dec_lt b (last_live (shared_side source)))
        where
          go : Dec (a < last_live (elem_side source)) → Dec (b < last_live (shared_side source)) → Copies target source (two_outcome target source (clone_from target source))
          go (yes h) d = rw (clone_5 h) (refused_5 h)
          go (no h) (yes d) = rw (clone_6 (omega arith) d) (refused_6 (omega arith) d)
          go (no h) (no d) = let M : Roomy a b source = record { elems = omega arith; shared = omega arith } in rw (clone_done M) (done M)

-- THE CLAIM
pub copying : Copying
copying target source o d = go (met target source (Whole source) (clone_from target source) o d)
  where
    of : {q : TwoOutcome} → o ≡ q → Copies target source q → Copies target source o
    of e c = subst (λ (p : TwoOutcome). Copies target source p) (sym e) c

    go : Met target source (Whole source) (clone_from target source) o → Copies target source o
    go (source_1 s e) = of e (refused_1 target source (inl s))
    go (target_1 s t e) = of e (refused_1 target source (inr (s, t)))
    go (sound_2 s t n e) = of e (refused_2 target source s t n)
    go (passes s t S e) = of e (ruled target source s t S)

-- an accepted one, as the rule has it
pub record Accepted (target source : State) (o : TwoOutcome) : Type 0 where
  pub shape : shaped target ≡ true
  pub room : Roomy target.head.elems.capacity target.head.shared.capacity source
  pub copy : o.target ≡ copied target.head.elems.capacity target.head.shared.capacity source

pub accepted-is : (target source : State) (o : TwoOutcome) → AtCopy target source o → o.said.number ≡ 0 → Accepted target source o
accepted-is target source o d z = go (met target source (Whole source) (clone_from target source) o d)
  where
    not_1 : {n : ℕ} → o.said.number ≡ suc n → Accepted target source o
    not_1 e = absurd (omega (arith, z, e))

    number : {q : TwoOutcome} → o ≡ q → o.said.number ≡ q.said.number
    number e = ap (λ (p : TwoOutcome). p.said.number) e

    ruled_by : {r : TwoRuling} → o ≡ two_outcome target source (clone_from target source) → clone_from target source ≡ r → o ≡ two_outcome target source r
    ruled_by e q = e ∙ ap (two_outcome target source) q

    roomy : shaped target ≡ true → o ≡ two_outcome target source (clone_from target source) → Dec (target.head.elems.capacity < last_live (elem_side source)) → Dec (target.head.shared.capacity < last_live (shared_side source)) → Accepted target source o
    roomy t e (yes h) k = not_1 (number (ruled_by e (clone_5 target source h)))
    roomy t e (no h) (yes k) = not_1 (number (ruled_by e (clone_6 target source (omega arith) k)))
    roomy t e (no h) (no k) =
        let M : Roomy target.head.elems.capacity target.head.shared.capacity source = record { elems = omega arith; shared = omega arith } in
        record { shape = t; room = M; copy = ap (λ (p : TwoOutcome). p.target) (ruled_by e (clone_done target source M)) }

    go : Met target source (Whole source) (clone_from target source) o → Accepted target source o
    go (source_1 s e) = not_1 (number e)
    go (target_1 s t e) = not_1 (number e)
    go (sound_2 s t n e) = not_1 (number e)
    go (passes s t S e) = roomy t e (dec_lt target.head.elems.capacity (last_live (elem_side source))) (dec_lt target.head.shared.capacity (last_live (shared_side source)))
