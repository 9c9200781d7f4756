-- THE MOVE is a renumbering in canonical order into the target's tables: sound, the same runs up to the renaming, and a history begun anew (Ticket 12).
use mathlib.Core.Path.{◌≡◌, refl, ap}
use mathlib.Core.Bool.{true}
use mathlib.Core.List.{List}
use Prim.Native.Nat.{ℕ, ◌+◌, ◌≤◌}
use native.Mathlib.Omega.{arith}
use lib.ListN.{length, length-map}
use Rattle.rules.specs.Notation.{flat}
use Rattle.rules.specs.Tables.{last_generation, generation_of, State}
use Rattle.rules.specs.Sound.{Frame}
use Rattle.rules.specs.Refusals.{shaped}
use Rattle.rules.specs.Calls.{Ready}
use Rattle.rules.specs.Compress.{canonical_frames, canonical_classes, place_of, renumbered_in}
use Rattle.rules.specs.Move.{moved}
use Rattle.rules.specs.Moving.{MovedTo}
use Rattle.rules.specs.History.{History, frames, ordered, renamed, moved_into}
use Rattle.rules.proofs.Laws.Working.{view, Working}
use Rattle.rules.proofs.Laws.Safe.{working}
use Rattle.rules.proofs.Laws.Order.{frames_listed, classes_listed}
use Rattle.rules.proofs.Laws.Compress.{Order, by_place, renumbers, renumbered_keeps, renumbered_gen, there}
use Rattle.rules.proofs.Laws.Renumber.{by_old}
use Rattle.rules.proofs.Laws.SameRuns.{renumbered-runs, frame-live}
use Rattle.rules.proofs.Laws.Good.{Good}
use Rattle.rules.proofs.Laws.Copying.{capacities}
use Rattle.rules.proofs.Laws.Histories.Renumber.{flat_image}
use Rattle.rules.proofs.Laws.Histories.Compress.{named_by_run}
use Rattle.rules.proofs.Laws.Histories.Renamed.{carried}

-- a generation, and room for what lives
pub record Fitting (target source : State) (g : ℕ) : Type 0 where
  pub least : 1 ≤ g
  pub most : g ≤ last_generation
  pub elems : source.head.elems.live ≤ target.head.elems.capacity
  pub shared : source.head.shared.live ≤ target.head.shared.capacity

module _ (target source : State) (g : ℕ) (F : Fitting target source g) where
  abbrev a : ℕ
  a = target.head.elems.capacity

  abbrev b : ℕ
  b = target.head.shared.capacity

  abbrev fs : List ℕ
  fs = canonical_frames source

  abbrev cs : List ℕ
  cs = canonical_classes source

  pub move_order : Working (view source) → Order (view source) target.head.elems.capacity target.head.shared.capacity (canonical_frames source) (canonical_classes source) g
  move_order W = record { frames = frames_listed source W; headers = classes_listed source W; room = F.elems; shared-room = F.shared; least = F.least; most = F.most }

  move_gens : (W : Working (view source)) → (s : ℕ) → Frame (moved target source g) s → generation_of (moved target source g).elems s ≡ g
  move_gens W s f =
      let O = move_order W in
      by_old (view source) (view (moved target source g)) (by_place fs cs) (renumbers a b source W fs cs g O) W (λ t. (view (moved target source g)).gen t ≡ g)
      (λ x h. let p = there (view source).gen fs O.frames x h in renumbered_gen a b source W fs cs g O (place_of fs x) p.0 p.1) s (frame-live (moved target source g) s f)

  -- THE TARGET
  pub move-to : shaped target ≡ true → Ready source → MovedTo target source g (moved target source g)
  unfolding renumbered_in
  move-to T R =
      let W = working source R in
      record {
        ready = renumbered_keeps a b source W fs cs g (move_order W) (capacities target T);
        runs = renumbered-runs a b source W fs cs g (move_order W);
        generation = refl;
        generations = move_gens W;
        elems = refl;
        shared = refl;
        undo = refl;
      }

  -- the target's history, whatever it was before
  pub good-moved : shaped target ≡ true → (t h : History) → frames t + t.taken ≡ t.put → Good source h → Good (moved target source g) (moved_into t h g)
  unfolding renumbered_in
  good-moved T t h c G =
      let W = working source G.ready in
      let O = move_order W in
      let new = renamed g (ordered h.runs) in
      let C = carried (view source) (view (moved target source g)) (by_place fs cs) (renumbers a b source W fs cs g O) W new (named_by_run source W a b g O h.runs G.rings) h.runs h.sealed h.sizes (record { rings = G.rings; seals = G.seals; sizes = G.sizes }) in
      record {
        ready = (move-to T G.ready).ready;
        rings = C.rings;
        generation = refl;
        seals = C.seals;
        sizes = C.sizes;
        counts = omega (arith, c, ap length (flat_image new h.runs), length-map (flat h.runs) new);
      }
