-- THE LAW said once over both compressions (Ticket 3): where slots are renumbered, runs, rings, counts and payloads are the same up to the renaming.
use Rattle.std.specs.Prelude.{if◌then◌else◌}
use mathlib.Core.Path.{◌≡◌, sym, ap, ◌∙◌}
use mathlib.Core.Logic.{◌≢◌}
use mathlib.Core.Bool.{Bool, true, false}
use mathlib.Core.List.{List}
use Prim.Native.Nat.{ℕ}
use native.Mathlib.Omega.{arith}
use Rattle.rules.specs.declared.Refusal.TheVariants.{Short}
use Rattle.rules.specs.Notation.{along}
use Rattle.rules.specs.Tables.{frame_width, State, elem_side, shared_side}
use Rattle.rules.specs.Refusals.{refuse, accept, outcome}
use Rattle.rules.specs.Sound.{Frame, Header}
use Rattle.rules.specs.Drains.{is_short}
use Rattle.rules.specs.Compress
use Rattle.rules.specs.Compress.{canonical_frames, canonical_classes, place_of, renumbered_in, generation_after, live_slots, pair_width}
use Rattle.rules.specs.Renaming.{SameRuns, canonical, kept, Renaming}
use Rattle.rules.proofs.Laws.Sides.{live_of, live_to}
use Rattle.rules.proofs.Laws.Pools.{live_in}
use Rattle.rules.proofs.Laws.Working.{view, Working}
use Rattle.rules.proofs.Laws.Safe.{working}
use Rattle.rules.proofs.Laws.Ranks.{live_listed}
use Rattle.rules.proofs.Laws.Renumber as renumber
use Rattle.rules.proofs.Laws.Renumber.{Renumbered, renumbered-along, renumbered-size}
use Rattle.rules.proofs.Laws.Compress.{Order, by_place, renumbers, renumbered_works, own_order, canonical_order}

-- the book's frames and headers are those of the columns
module _ (st : State) where
  pub frame-live : (s : ℕ) → Frame st s → (view st).gen s ≢ 0
  frame-live s f = (live_of (elem_side st) s f).used

  header-live : (c : ℕ) → Header st c → (view st).count c ≢ 0
  header-live c h = (live_of (shared_side st) c h).used

  live-frame : Working (view st) → (s : ℕ) → (view st).gen s ≢ 0 → Frame st s
  live-frame W s h = let l = live_in W.elems s h in live_to (elem_side st) s (record { low = l.0; high = l.1; used = h })

  live-header : Working (view st) → (c : ℕ) → (view st).count c ≢ 0 → Header st c
  live-header W c h = let l = live_in W.shared c h in live_to (shared_side st) c (record { low = l.0; high = l.1; used = h })

pub same_runs : (st st' : State) (m : renumber.Renaming) → Renumbered (view st) (view st') m → Working (view st) → Working (view st') → SameRuns st st' m.new m.new_class
same_runs st st' m N W W' = record {
  frame = λ s f. live-frame st' W' (m.new s) (N.out s (frame-live st s f)).0;
  own = λ s t f k e. sym (N.out s (frame-live st s f)).1 ∙ ap m.old e ∙ (N.out t (frame-live st t k)).1;
  each = λ t f. let i = N.into t (frame-live st' t f) in (m.old t, live-frame st W (m.old t) i.0, i.1);
  header = λ c h. let l = header-live st c h in live-header st' W' (m.new_class c) (λ e. l (sym (N.counts c l) ∙ e));
  own_header = λ c d h k e. sym (N.class-out c (header-live st c h)) ∙ ap m.old_class e ∙ N.class-out d (header-live st d k);
  each_header = λ d h. let i = N.class-into d (header-live st' d h) in (m.old_class d, live-header st W (m.old_class d) i.0, i.1);
  class = λ s f. N.classes s (frame-live st s f);
  rings = λ s f. let l = frame-live st s f in ap (λ (k : ℕ). along (view st').next k (m.new s)) (renumbered-size (view st) (view st') m N W s l) ∙ renumbered-along (view st) (view st') m N W ((view st).count ((view st).class s)) s l;
  next = λ s f. N.nexts s (frame-live st s f);
  previous = λ s f. N.prevs s (frame-live st s f);
  payload = λ s f. N.payloads s (frame-live st s f);
  size = λ s f. N.sizes s (frame-live st s f);
  count = λ c h. N.counts c (header-live st c h);
  value = λ c h. N.values c (header-live st c h);
  mark = λ c h. N.marks c (header-live st c h);
  total = λ c h. N.totals c (header-live st c h);
}

-- every renumbering by full listings, in tables of any capacities with room
pub renumbered-runs : (a b : ℕ) (st : State) → Working (view st) → (fs cs : List ℕ) (g : ℕ) → Order (view st) a b fs cs g → SameRuns st (renumbered_in a b st fs cs g) (place_of fs) (place_of cs)
renumbered-runs a b st W fs cs g O = same_runs st (renumbered_in a b st fs cs g) (by_place fs cs) (renumbers a b st W fs cs g O) W (renumbered_works a b st W fs cs g O)

-- an accepted call that writes
pub writes_ruled : (st : State) (lent : List ℕ) (short : Bool) (values : List ℕ) (over : Bool) (to : State) (places : List ℕ) (P : State → Type 0) → P to
    → (outcome st lent (if short then refuse Short else accept values over to places)).said.number ≡ 0 → P (outcome st lent (if short then refuse Short else accept values over to places)).state
writes_ruled st lent true values over to places P p e = absurd (omega (arith, e))
writes_ruled st lent false values over to places P p e = p

-- both compressions
pub renaming : Renaming
unfolding Compress.compress Compress.compress_with
renaming st R lent _ (canonical reset) =
    let W = working st R in
    let fs = canonical_frames st in
    let cs = canonical_classes st in
    writes_ruled st lent (is_short lent st.head.elems.capacity frame_width) _ _ _ _ (λ s. SameRuns st s (place_of fs) (place_of cs))
    (renumbered-runs st.head.elems.capacity st.head.shared.capacity st W fs cs (generation_after reset st.head.generation) (canonical_order st W reset))
renaming st R lent _ (kept reset) =
    let W = working st R in
    let fs = live_slots (elem_side st) in
    let cs = live_slots (shared_side st) in
    writes_ruled st lent (is_short lent st.head.elems.live pair_width) _ _ _ _ (λ s. SameRuns st s (place_of fs) (place_of cs))
    (renumbered-runs st.head.elems.capacity st.head.shared.capacity st W fs cs (generation_after reset st.head.generation) (own_order st W fs cs (live_listed (elem_side st) W.elems) (live_listed (shared_side st) W.shared) reset))
