-- THE COPY is sound, and the same study: every live slot is as it was, so keys and rings are (Ticket 10).
use mathlib.Core.Path.{◌≡◌, refl, ap, ◌∙◌}
use mathlib.Core.Logic.{◌≢◌}
use Prim.Native.Nat.{ℕ, ◌≤◌, ◌<◌}
use native.Mathlib.Omega.{arith}
use Rattle.rules.specs.Tables.{most_slots, frame_width, header_width, frame_at, header_at, cell, State, elem_side, shared_side}
use Rattle.rules.specs.Calls.{Ready}
use Rattle.rules.specs.Renaming.{SameRuns}
use Rattle.rules.specs.Copy.{last_live, copied_pool, copied}
use Rattle.rules.proofs.Laws.Working.{View, view, Working, total-none}
use Rattle.rules.proofs.Laws.Pools.{live_in}
use Rattle.rules.proofs.Laws.Soundness.{Shaped, elems-blank, shared-blank}
use Rattle.rules.proofs.Laws.Safe.{working, ready}
use Rattle.rules.proofs.Laws.Renumber.{Renaming, Renumbered, renumbered-links, renumbered_class_live, renumbered-ring, renumbered-sizes}
use Rattle.rules.proofs.Laws.SameRuns.{same_runs}
use Rattle.rules.proofs.Laws.Copied.{copied-live, copied_column, copied-pooled, copied-long, live-last}

-- nothing is renamed
abbrev pub itself : Renaming
itself = record { new = λ s. s; old = λ s. s; new_class = λ c. c; old_class = λ c. c }

-- room in the target
pub record Roomy (a b : ℕ) (st : State) : Type 0 where
  pub elems : last_live (elem_side st) ≤ a
  pub shared : last_live (shared_side st) ≤ b

module _ (a b : ℕ) (st : State) (W : Working (view st)) where
  abbrev v : View
  v = view st

  abbrev v' : View
  v' = view (copied a b st)

  frames : (f : ℕ) → f < frame_width → f ≢ frame_at.next → cell frame_width (copied a b st).elems f ≡ cell frame_width st.elems f
  frames f h n = copied_column (elem_side st) W.elems a (omega arith) (elems-blank st W) f h n

  headers : (f : ℕ) → f < header_width → f ≢ header_at.next_free → cell header_width (copied a b st).shared f ≡ cell header_width st.shared f
  headers f h n = copied_column (shared_side st) W.shared b (omega arith) (shared-blank st W) f h n

  pub gens : (view (copied a b st)).gen ≡ (view st).gen
  gens = frames 0 (omega arith) (omega arith)

  pub counts : (view (copied a b st)).count ≡ (view st).count
  counts = headers 0 (omega arith) (omega arith)

  sizes : (view (copied a b st)).bytes ≡ (view st).bytes
  sizes = frames 5 (omega arith) (omega arith)

  marks : (view (copied a b st)).mark ≡ (view st).mark
  marks = headers 3 (omega arith) (omega arith)

  totals : (view (copied a b st)).total ≡ (view st).total
  totals = headers 4 (omega arith) (omega arith)

  pub copy_renumbers : Renumbered (view st) (view (copied a b st)) itself
  copy_renumbers = record {
    out = λ s h. (rw gens h, refl);
    into = λ t h. (rw gens at h, refl);
    class-out = λ c h. refl;
    class-into = λ d h. (rw counts at h, refl);
    nexts = λ s h. copied-live (elem_side st) W.elems a (omega arith) s frame_at.next h (omega arith);
    prevs = λ s h. ap (λ (col : ℕ → ℕ). col s) (frames 3 (omega arith) (omega arith));
    classes = λ s h. ap (λ (col : ℕ → ℕ). col s) (frames 2 (omega arith) (omega arith));
    payloads = λ s h. ap (λ (col : ℕ → ℕ). col s) (frames 1 (omega arith) (omega arith));
    sizes = λ s h. ap (λ (col : ℕ → ℕ). col s) sizes;
    counts = λ c h. ap (λ (col : ℕ → ℕ). col c) counts;
    values = λ c h. ap (λ (col : ℕ → ℕ). col c) (headers 1 (omega arith) (omega arith));
    marks = λ c h. ap (λ (col : ℕ → ℕ). col c) marks;
    totals = λ c h. ap (λ (col : ℕ → ℕ). col c) totals;
  }

  pub copy_works : Roomy a b st → Working (view (copied a b st))
  unfolding copied_pool
  copy_works M = record {
    least = W.least;
    most = W.most;
    elems = copied-pooled (elem_side st) W.elems a (omega arith) (elems-blank st W) (omega arith) (omega arith) M.elems;
    shared = copied-pooled (shared_side st) W.shared b (omega arith) (shared-blank st W) (omega arith) (omega arith) M.shared;
    gens = λ s. rw gens (W.gens s);
    zeros = λ s h. let z = W.zeros s (rw gens at h) in (rw (frames 1 (omega arith) (omega arith)) z.0, rw (frames 2 (omega arith) (omega arith)) z.1, rw (frames 3 (omega arith) (omega arith)) z.2);
    value-zero = λ c h. rw (headers 1 (omega arith) (omega arith)) (W.value-zero c (rw counts at h));
    chain-zero = λ c h. let l : v.count c ≢ 0 = rw counts at h in copied-live (shared_side st) W.shared b (omega arith) c header_at.next_free l (omega arith) ∙ W.chain-zero c l;
    marks = λ c. rw (marks, counts) (W.marks c);
    sizes = renumbered-sizes v v' itself copy_renumbers W a
        (λ s. rw sizes (W.sizes.most s))
        (λ s h. rw sizes (W.sizes.free s (rw gens at h)))
        (λ c h. rw totals (total-none v W c (rw counts at h)))
        (λ s h. let l : v.gen s ≢ 0 = rw gens at h in ((live_in W.elems s l).0, omega (arith, live-last (elem_side st) W.elems s l, M.elems)));
    links = renumbered-links v v' itself copy_renumbers W;
    class-live = renumbered_class_live v v' itself copy_renumbers W;
    ring = renumbered-ring v v' itself copy_renumbers W;
  }

  -- runs, rings, counts and payloads are the same, in their own slots
  pub copy-runs : Roomy a b st → SameRuns st (copied a b st) (λ s. s) (λ c. c)
  copy-runs M = same_runs st (copied a b st) itself copy_renumbers W (copy_works M)

  copy-shape : (1 ≤ a) × (a ≤ most_slots) × (1 ≤ b) × (b ≤ most_slots) → Roomy a b st → Shaped (copied a b st)
  unfolding copied_pool
  copy-shape r M = record {
    elems = record { some = r.0; small = r.1; long = copied-long (elem_side st) W.elems a (omega arith) M.elems };
    shared = record { some = r.2; small = r.3; long = copied-long (shared_side st) W.shared b (omega arith) M.shared };
  }

-- KEPT
pub copy_keeps : (a b : ℕ) (st : State) → Ready st → (1 ≤ a) × (a ≤ most_slots) × (1 ≤ b) × (b ≤ most_slots) → Roomy a b st → Ready (copied a b st)
copy_keeps a b st R r M = let W = working st R in ready (copied a b st) (copy-shape a b st W r M) (copy_works a b st W M)
