-- Fresh, clear and drain all leave empty tables and a history of no runs (Rules 2, 11 and 12).
use Rattle.std.specs.Prelude.{if◌then◌else◌}
use mathlib.Core.Path.{◌≡◌, refl, sym, ap}
use mathlib.Core.Bool.{Bool, true, false}
use mathlib.Core.List.{List, []}
use Prim.Native.Nat.{ℕ, ◌+◌, ◌*◌}
use native.Mathlib.Omega.{arith}
use Rattle.rules.specs.declared.Key.{Key}
use Rattle.rules.specs.declared.Refusal.TheVariants.{Shape}
use Rattle.rules.specs.Tables.{frame_width, State}
use Rattle.rules.specs.Sound.{both_fit}
use Rattle.rules.specs.Refusals.{Ruling, refuse, answer, outcome}
use Rattle.rules.specs.Slots.{empty, fresh, raised}
use Rattle.rules.specs.Drains.{cleared, all_drained}
use Rattle.rules.specs.Calls.{Ready, clear, drain_all, fresh_step}
use Rattle.rules.specs.History.{History, Given, frames, still_in, still_given, taking_out, accepted, noted_fresh, nothing}
use Rattle.rules.proofs.Laws.Columns.{cell-zeros}
use Rattle.rules.proofs.Laws.Steps.{steps-suc}
use Rattle.rules.proofs.Laws.Working.{view}
use Rattle.rules.proofs.Laws.Safe.{working}
use Rattle.rules.proofs.Laws.Empty.{clear_keeps, fresh_keeps}
use Rattle.rules.proofs.Laws.Headers.{live-runs}
use Rattle.rules.proofs.Laws.Seals.{seals_none, still-still}
use Rattle.rules.proofs.Laws.Givens.{givens_none, given_still_still}
use Rattle.rules.proofs.Laws.Good.{Good, good-told}
use Rattle.rules.proofs.Laws.Histories.Gone.{rep_none}
use Rattle.rules.proofs.Laws.Histories.Drain.{good-all}

good-empty : (unjoined : List (List Key)) (elems shared g put taken : ℕ) (ss : List Key) (gs : List Given) → Ready (empty elems shared g) → taken ≡ put → Good (empty elems shared g) (record { runs = []; unjoined = unjoined; sealed = still_in [] ss; sizes = still_given [] gs; put = put; taken = taken; generation = g })
unfolding empty
good-empty unjoined elems shared g put taken ss gs Y e =
    let z : (s : ℕ) → (view (empty elems shared g)).gen s ≡ 0 = λ s. cell-zeros frame_width (elems * frame_width) 0 s in
    record { ready = Y; rings = rep_none (view (empty elems shared g)) z; seals = seals_none (view (empty elems shared g)) z ss; sizes = givens_none (view (empty elems shared g)) z gs; generation = refl; counts = omega arith }

module _ (st : State) (h : History) (G : Good st h) where
  pub good-clear : (values : List ℕ) → Good (cleared st) (accepted h clear values)
  unfolding cleared
  good-clear values = good-told refl refl refl (ap raised G.generation) (good-empty h.unjoined st.head.elems.capacity st.head.shared.capacity (raised st.head.generation) h.put (h.taken + frames h) h.sealed h.sizes (clear_keeps st G.ready) (omega (arith, G.counts)))

pub good-drain_all : (st : State) (h : History) → Good st h → (values : List ℕ) → Good (cleared (all_drained st.head.shared.live st)) (accepted h drain_all values)
good-drain_all st h G values =
    let n = st.head.shared.live in
    let all = good-all n st h G (sym (live-runs (view st) (working st G.ready) h.runs G.rings)) in
    good-told (still-still [] [] h.sealed (λ x m. m)) (given_still_still [] [] h.sizes (λ x m. m)) (omega arith) (sym (steps-suc raised (frames h) h.generation)) (good-clear (all_drained n st) (taking_out h (frames h) (frames h) []) all [])

-- fresh, the first time and again, accepted or refused
module _ (st : State) (elems shared : ℕ) where
  abbrev ruled : Bool → Ruling
  ruled b = if b then answer [] (empty elems shared 1) else refuse Shape

  pub good_start : (fresh_step st elems shared).said.number ≡ 0 → Good (fresh_step st elems shared).state nothing
  unfolding fresh
  good_start e = go (both_fit st elems shared) refl e
    where
      go : (b : Bool) → both_fit st elems shared ≡ b → (outcome st [] (ruled b)).said.number ≡ 0 → Good (outcome st [] (ruled b)).state nothing
      go true f e = good-empty [] elems shared 1 0 0 [] [] (fresh_keeps st elems shared f) refl
      go false f e = absurd (omega (arith, e))

  pub good-fresh : (h : History) → Good st h → Good (fresh_step st elems shared).state (noted_fresh h (fresh_step st elems shared).said)
  unfolding fresh
  good-fresh h G = go (both_fit st elems shared) refl
    where
      go : (b : Bool) → both_fit st elems shared ≡ b → Good (outcome st [] (ruled b)).state (noted_fresh h (outcome st [] (ruled b)).said)
      go true f = good-empty h.unjoined elems shared 1 h.put (h.taken + frames h) [] [] (fresh_keeps st elems shared f) (omega (arith, G.counts))
      go false f = G
