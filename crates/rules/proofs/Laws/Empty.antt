-- Fresh and clear: zero tables are a sound state, with any generation in its range.
use mathlib.Core.Path.{◌≡◌, refl, sym, ◌∙◌}
use mathlib.Core.Bool.{true}
use mathlib.Core.List.{[]}
use Prim.Native.Nat.{ℕ, ◌*◌, ◌≤◌}
use native.Mathlib.Omega.{arith}
use lib.ListN.{length-replicate}
use Rattle.rules.specs.Tables.{most_slots, frame_width, header_width, cell, State}
use Rattle.rules.specs.Sound.{both_fit, InRange}
use Rattle.rules.specs.Slots.{empty_pool, empty, raised}
use Rattle.rules.specs.Drains.{cleared}
use Rattle.rules.specs.Calls.{Ready}
use Rattle.rules.proofs.Laws.Columns.{cell-zeros}
use Rattle.rules.proofs.Laws.Pools.{Pooled}
use Rattle.rules.proofs.Laws.Totals.{whole-none}
use Rattle.rules.proofs.Laws.Working.{view, Working}
use Rattle.rules.proofs.Laws.Soundness.{Shaped, both_fit_lem, shaped_of}
use Rattle.rules.proofs.Laws.Safe.{working, ready}
use Rattle.rules.proofs.Laws.Freed.{raised_least, raised-most}

pooled-empty : (capacity : ℕ) (g n : ℕ → ℕ) → ((s : ℕ) → g s ≡ 0) → ((s : ℕ) → n s ≡ 0) → Pooled (empty_pool capacity) g n
pooled-empty capacity g n zg zn = record {
  fits = omega arith;
  number = refl;
  chain = record { slots = []; walk = refl; once = tt; free = tt };
  whole = λ s f. omega (arith, f.low, f.within);
  none = zg 0;
  past = λ s l. (zg s, zn s);
}

module _ (elems shared g : ℕ) where
  zero-frame : (f s : ℕ) → cell frame_width (empty elems shared g).elems f s ≡ 0
  unfolding empty
  zero-frame f s = cell-zeros frame_width (elems * frame_width) f s

  zero-header : (f c : ℕ) → cell header_width (empty elems shared g).shared f c ≡ 0
  unfolding empty
  zero-header f c = cell-zeros header_width (shared * header_width) f c

  pub empty-sound : InRange g → Working (view (empty elems shared g))
  unfolding empty
  empty-sound r = record {
    least = r.0;
    most = r.1;
    elems = pooled-empty elems (view (empty elems shared g)).gen (view (empty elems shared g)).next (zero-frame 0) (zero-frame 4);
    shared = pooled-empty shared (view (empty elems shared g)).count (view (empty elems shared g)).chain (zero-header 0) (zero-header 2);
    gens = λ s. rw (zero-frame 0 s) (omega arith);
    zeros = λ s e. (zero-frame 1 s, zero-frame 2 s, zero-frame 3 s);
    value-zero = λ c e. zero-header 1 c;
    chain-zero = λ c h. absurd (h (zero-header 0 c));
    marks = λ c. rw (zero-header 3 c) (omega arith, omega arith);
    sizes = record { most = λ s. rw (zero-frame 5 s) (omega arith); free = λ s e. zero-frame 5 s; total = λ c. zero-header 4 c ∙ sym (whole-none elems (λ s. 0) (view (empty elems shared g)).class (view (empty elems shared g)).bytes c (λ s e. zero-frame 5 s) (λ s l. absurd (l refl))) };
    links = record {
      next-live = λ s h. absurd (h (zero-frame 0 s));
      prev_live = λ s h. absurd (h (zero-frame 0 s));
      prev_next = λ s h. absurd (h (zero-frame 0 s));
      next_prev = λ s h. absurd (h (zero-frame 0 s));
    };
    class-live = λ s h. absurd (h (zero-frame 0 s));
    ring = λ c h. absurd (h (zero-header 0 c));
  }

  pub empty_keeps : (1 ≤ elems) × (elems ≤ most_slots) → (1 ≤ shared) × (shared ≤ most_slots) → InRange g → Ready (empty elems shared g)
  unfolding empty
  empty_keeps e s r = ready (empty elems shared g) shape (empty-sound r)
    where
      shape : Shaped (empty elems shared g)
      shape = record {
        elems = record { some = e.0; small = e.1; long = length-replicate (elems * frame_width) 0 };
        shared = record { some = s.0; small = s.1; long = length-replicate (shared * header_width) 0 };
      }

-- Rules 12, clear
pub clear_keeps : (st : State) → Ready st → Ready (cleared st)
unfolding cleared
clear_keeps st R =
    let H = shaped_of st R.shape in
    empty_keeps st.head.elems.capacity st.head.shared.capacity (raised st.head.generation) (H.elems.some, H.elems.small) (H.shared.some, H.shared.small)
    (raised_least st.head.generation, raised-most st.head.generation (working st R).most)

-- Rules 2, fresh
pub fresh_keeps : (st : State) (elems shared : ℕ) → both_fit st elems shared ≡ true → Ready (empty elems shared 1)
fresh_keeps st elems shared e =
    let p = both_fit_lem st elems shared e in
    empty_keeps elems shared 1 (p.0.some, p.0.small) (p.1.some, p.1.small) (omega arith, omega arith)
