-- Shape, soundness and the history at once; from it, what demand 3 claims of the tables.
use mathlib.Core.Path.{◌≡◌, refl, sym, ap, ◌∙◌, subst}
use mathlib.Core.Logic.{◌≢◌}
use mathlib.Core.List.{List, ◌∷◌, map}
use Prim.Native.Nat.{ℕ, ◌+◌, ◌≤◌, ◌<◌}
use native.Mathlib.Omega.{arith}
use lib.ListN.{length}
use Rattle.rules.specs.declared.Key.{Key}
use Rattle.rules.specs.Notation.{steps, along, sum, flat}
use Rattle.rules.specs.Tables
use Rattle.rules.specs.Tables.{total_of, State, shared_side, size_at}
use Rattle.rules.specs.Sound.{Header}
use Rattle.rules.specs.Calls.{Ready}
use Rattle.rules.specs.History.{History, Given, given_for, frames, with_runs, run_of, others_of, runs_but}
use Rattle.rules.specs.Demand
use Rattle.rules.specs.Demand.{header_of, Agrees}
use Rattle.rules.proofs.Laws.Lists.{In, all_map, all-at}
use Rattle.rules.proofs.Laws.Steps.{walk-along, walk_end, walk-once}
use Rattle.rules.proofs.Laws.Pools.{live_in}
use Rattle.rules.proofs.Laws.Working.{view, Working, total-ring}
use Rattle.rules.proofs.Laws.Soundness.{ring-at}
use Rattle.rules.proofs.Laws.Totals.{sum_ext}
use Rattle.rules.proofs.Laws.Sides
use Rattle.rules.proofs.Laws.Safe.{working, looked, found-live}
use Rattle.rules.proofs.Laws.Keys.{in_of, in_to, once-to}
use Rattle.rules.proofs.Laws.Fronted.{Same, same_length, fronted}
use Rattle.rules.proofs.Laws.Rep.{LiveKey, Rep, rep_same, held}
use Rattle.rules.proofs.Laws.Classes.{Run, first_run, run-size, one_class, own-run}
use Rattle.rules.proofs.Laws.Headers.{counts-sum}
use Rattle.rules.proofs.Laws.Seals.{Seals}
use Rattle.rules.proofs.Laws.Givens.{Givens, slots-sum}

pub record Good (st : State) (h : History) : Type 0 where
  pub ready : Ready st
  -- the tables hold the history's runs
  pub rings : Rep (view st) h.runs
  pub generation : st.head.generation ≡ h.generation
  -- the marks are the history's
  pub seals : Seals (view st) h.sealed
  -- and so are the sizes
  pub sizes : Givens (view st) h.sizes
  -- the frames are those put in, less those taken out
  pub counts : frames h + h.taken ≡ h.put

-- the same history, written in another way
pub good-same : {st : State} {h : History} (rs : List (List Key)) → Same h.runs rs → Good st h → Good st (with_runs h rs)
good-same {st} {h} rs s G = record { ready = G.ready; rings = rep_same (view st) s G.rings; generation = G.generation; seals = G.seals; sizes = G.sizes; counts = ap (λ (n : ℕ). n + h.taken) (sym (same_length s)) ∙ G.counts }

-- which keys are sealed, the sizes, what is taken out, and the generation, told in another way
pub good-told : {st : State} {rs unjoined : List (List Key)} {sealed sealed' : List Key} {sizes sizes' : List Given} {put taken taken' generation generation' : ℕ} → sealed ≡ sealed' → sizes ≡ sizes' → taken ≡ taken' → generation ≡ generation'
    → Good st (record { runs = rs; unjoined = unjoined; sealed = sealed; sizes = sizes; put = put; taken = taken; generation = generation }) → Good st (record { runs = rs; unjoined = unjoined; sealed = sealed'; sizes = sizes'; put = put; taken = taken'; generation = generation' })
good-told {st} {rs} {unjoined} {put = put} d z e f G = subst (λ (h : History). Good st h) (λ i. record { runs = rs; unjoined = unjoined; sealed = d i; sizes = z i; put = put; taken = e i; generation = f i }) G

-- a live key, as the book says it and as the laws do
module _ (st : State) where
  pub live_of : (k : Key) → Tables.LiveKey st k → LiveKey (view st) k
  live_of k e = let l = looked st k k.slot e in record { live = omega (arith, l.live.used); gen = l.generation }

  pub live_to : Ready st → (k : Key) → LiveKey (view st) k → Tables.LiveKey st k
  live_to Y k l =
      let i = live_in (working st Y).elems k.slot l.live in
      found-live st k (record { some = i.0; within = i.1; used = omega (arith, l.live) }) l.gen

module _ (st : State) (h : History) (G : Good st h) where
  -- the run of a live key comes to the front, begun there
  pub key_fronted : (k : Key) → LiveKey (view st) k → Same h.runs (run_of k h.runs ∷ runs_but k h.runs)
  key_fronted k l = fronted k h.runs G.rings.once (held (view st) h.runs k G.rings l)

  pub run-from : (k : Key) → LiveKey (view st) k → Run (view st) (run_of k h.runs)
  run-from k l = first_run (view st) (run_of k h.runs) (runs_but k h.runs) (rep_same (view st) (key_fronted k l) G.rings)

  pub size-from : (k : Key) → LiveKey (view st) k → length (run_of k h.runs) ≡ size_at st k.slot
  size-from k l = run-size (view st) (working st G.ready) k (others_of k h.runs) (run-from k l)

  pub agrees : Agrees st h
  agrees = record {
    lies = λ k. ((λ l. in_to k (flat h.runs) (held (view st) h.runs k G.rings (live_of st k l))), λ m. live_to st G.ready k (all-at (LiveKey (view st)) k (flat h.runs) G.rings.live (in_of k (flat h.runs) m)));
    once = once-to (flat h.runs) G.rings.once;
    headed = λ k l. headed k (live_of st k l);
    shares = λ j k i l m. shares j k (live_of st k l) (in_of j (run_of k h.runs) m);
    own = λ j k i l e. in_to j (run_of k h.runs) (own-run (view st) W k (others_of k h.runs) (run-from k (live_of st k l)) j (live_of st j i) e);
    meets = λ k l. meets k (live_of st k l);
    returns = λ k l. returns k (live_of st k l);
    before = λ k l. before k (live_of st k l);
    marks = λ k l. G.seals.marked k (live_of st k l);
    totals = λ k l. totals k (live_of st k l);
    counts = rw (counts-sum (view st) W h.runs G.rings) G.counts;
  }
    where
      W : Working (view st)
      W = working st G.ready

      headed : (k : Key) → LiveKey (view st) k → Header st (header_of st k)
      headed k l =
          let n = W.class-live k.slot l.live in
          let i = live_in W.shared (header_of st k) n in
          Sides.live_to (shared_side st) (header_of st k) (record { low = i.0; high = i.1; used = n })

      shares : (j k : Key) → LiveKey (view st) k → In j (run_of k h.runs) → header_of st j ≡ header_of st k
      shares j k l m = all-at (λ x. header_of st x ≡ header_of st k) j (run_of k h.runs) (one_class (view st) W k (others_of k h.runs) (run-from k l)) m

      meets : (k : Key) → LiveKey (view st) k → along (Demand.next_key st) (size_at st k.slot) k ≡ run_of k h.runs
      meets k l = subst (λ (n : ℕ). along (Demand.next_key st) n k ≡ run_of k h.runs) (size-from k l) (walk-along (Demand.next_key st) k k (run_of k h.runs) (refl, (run-from k l).ring))

      totals : (k : Key) → LiveKey (view st) k → total_of st.shared (header_of st k) ≡ sum (map (λ j. given_for j h.sizes) (run_of k h.runs))
      totals k l =
          let n = size_at st k.slot in
          let r = run_of k h.runs in
          let b = (view st).bytes in
          total-ring (view st) W (header_of st k) k.slot (ring-at (view st) W k.slot l.live)
          ∙ sym (slots-sum (view st) b n k) ∙ ap (λ (xs : List Key). sum (map (λ j. b j.slot) xs)) (meets k l)
          ∙ sum_ext (λ j. b j.slot) (λ j. given_for j h.sizes) r (all_map (λ j m. G.sizes.given j m) r (run-from k l).live)

      returns : (k : Key) → LiveKey (view st) k → steps (Demand.next_key st) (size_at st k.slot) k ≡ k
      returns k l = subst (λ (n : ℕ). steps (Demand.next_key st) n k ≡ k) (size-from k l) (walk_end (Demand.next_key st) k k (run_of k h.runs) (refl, (run-from k l).ring))

      before : (k : Key) → LiveKey (view st) k → (i : ℕ) → 1 ≤ i → i < size_at st k.slot → steps (Demand.next_key st) i k ≢ k
      before k l i a b e = walk-once (Demand.next_key st) k k (run_of k h.runs) (refl, (run-from k l).ring) (run-from k l).once 0 i (omega arith) (omega (arith, size-from k l)) (sym e)
