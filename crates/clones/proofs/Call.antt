-- The call: refused 5 or 6 with nothing changed, or accepted with both tables copied.
use Rattle.std.specs.Prelude.{Ok, Err, ⊤}
use mathlib.Core.Path.{◌≡◌}
use mathlib.Core.Bool.{true, false}
use mathlib.Core.List.{List}
use Prim.Native.Nat.{ℕ, ◌≤◌, ◌<◌}
use native.Mathlib.Omega.{arith}
use Rattle.rules.specs.declared.Pool.{Pool}
use Rattle.rules.specs.declared.Step.{Step}
use Rattle.rules.specs.declared.Refusal.TheVariants.{NoElement, NoShared}
use Rattle.rules.specs.Tables.{blank, State, elem_side, shared_side}
use Rattle.rules.specs.Refusals.{shaped}
use Rattle.rules.specs.Calls.{Ready}
use Rattle.rules.specs.TwoTables.{after_target}
use Rattle.rules.specs.Copy.{last_live, copied_table, copied_pool, clone_step}
use Rattle.rules.proofs.Laws.Copying
use Rattle.rules.proofs.Laws.Working.{view, Working}
use Rattle.rules.proofs.Laws.Soundness.{Shaped, shaped_of}
use Rattle.rules.proofs.Laws.Safe.{working}
use Rattle.clones.specs.Clones.{Scannable, Clonable}

module _ (to of : State) where
  abbrev a : ℕ
  a = to.head.elems.capacity

  abbrev b : ℕ
  b = to.head.shared.capacity

  pub clone_5 : (n : ℕ) → n ≡ last_live (elem_side of) → to.head.elems.capacity < n → after_target to.head (Err NoElement) to.elems to.shared of ≡ clone_step to of
  clone_5 n e h = rw (Copying.clone_5 to of (rw e at h))

  pub clone_6 : (n m : ℕ) → n ≡ last_live (elem_side of) → n ≤ to.head.elems.capacity → m ≡ last_live (shared_side of) → to.head.shared.capacity < m
      → after_target to.head (Err NoShared) to.elems to.shared of ≡ clone_step to of
  clone_6 n m e l p h = rw (Copying.clone_6 to of (rw e at l) (rw p at h))

  pub cloned_is : (n m : ℕ) → n ≡ last_live (elem_side of) → n ≤ to.head.elems.capacity → m ≡ last_live (shared_side of) → m ≤ to.head.shared.capacity
      → (p q : Pool) (e s : List ℕ) → p ≡ copied_pool a (elem_side of) → q ≡ copied_pool b (shared_side of) → e ≡ copied_table a (elem_side of) → s ≡ copied_table b (shared_side of)
      → (step : Step ⊤) → step ≡ record { head = record { elems = p; shared = q; generation = of.head.generation; undo = blank }; answer = tt; over = false } → after_target to.head (Ok step) e s of ≡ clone_step to of
  cloned_is n m x l y k p q e s ep eq ee es step is = rw (is, ep, eq, ee, es, Copying.clone_done to of (record { elems = rw x at l; shared = rw y at k }))

  -- what the passes ask
  module _ (T : shaped to ≡ true) (R : Ready of) where
    W : Working (view of)
    W = working of R

    H : Shaped of
    H = shaped_of of R.shape

    pub frames-scan : Scannable (elem_side of)
    frames-scan = record { inside = omega (arith, W.elems.fits, H.elems.long); reads = omega arith }

    pub headers-scan : Scannable (shared_side of)
    headers-scan = record { inside = omega (arith, W.shared.fits, H.shared.long); reads = omega arith }

    pub frames_clone : (n : ℕ) → n ≡ last_live (elem_side of) → n ≤ to.head.elems.capacity → Clonable to.head.elems.capacity to.elems (elem_side of) n
    frames_clone n e l = let G = shaped_of to T in record { pooled = W.elems; inside = frames-scan.inside; reads = omega arith; links = omega arith; narrow = omega arith; is = e; room = l; small = G.elems.small; long = G.elems.long }

    pub headers_clone : (m : ℕ) → m ≡ last_live (shared_side of) → m ≤ to.head.shared.capacity → Clonable to.head.shared.capacity to.shared (shared_side of) m
    headers_clone m e l = let G = shaped_of to T in record { pooled = W.shared; inside = headers-scan.inside; reads = omega arith; links = omega arith; narrow = omega arith; is = e; room = l; small = G.shared.small; long = G.shared.long }
