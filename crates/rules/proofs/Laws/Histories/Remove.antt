-- Remove steps the history: the key leaves its run, and an empty run goes too (Rules 7).
use mathlib.Core.Path.{◌≡◌, refl, sym, ap, ◌∙◌, subst₂}
use mathlib.Core.Logic.{◌≢◌, inl, inr}
use mathlib.Core.List.{List, [], ◌∷◌, ◌++◌}
use Prim.Native.Nat.{ℕ, suc}
use native.Mathlib.Omega.{arith}
use native.Mathlib.Decide.{ℕ_discrete}
use lib.ListN.{length}
use Rattle.rules.specs.declared.Key.{Key}
use Rattle.rules.specs.Notation.{flat}
use Rattle.rules.specs.Tables.{State}
use Rattle.rules.specs.Slots.{raised}
use Rattle.rules.specs.Runs.{removed}
use Rattle.rules.specs.Calls.{remove}
use Rattle.rules.specs.History.{History, others_of, run_of, runs_but, going_on, removed_runs, with_runs, taking_out, accepted}
use Rattle.rules.proofs.Laws.Columns.{skip, skip-here, skip-past}
use Rattle.rules.proofs.Laws.Lists.{In, Walk, all_both, all_parts, cycles_map, walk-map}
use Rattle.rules.proofs.Laws.Working.{View, view, Links}
use Rattle.rules.proofs.Laws.Links.{Excised, skips}
use Rattle.rules.proofs.Laws.Safe.{working}
use Rattle.rules.proofs.Laws.Leaving.{goes_on, last_one}
use Rattle.rules.proofs.Laws.Remove.{remove_v, excised, removed-on, removed-last, remove_keeps}
use Rattle.rules.proofs.Laws.Rep.{key_at, next_key, LiveKey, Rep, key_live, slots_apart, key-at}
use Rattle.rules.proofs.Laws.Steady.{removed-fewer}
use Rattle.rules.proofs.Laws.Seals.{seals_fewer}
use Rattle.rules.proofs.Laws.Givens.{givens_fewer}
use Rattle.rules.proofs.Laws.Good.{Good, good-same, key_fronted}

module _ (v v' : View) (k : Key) (L : Links v.gen v.prev v.next) (X : Excised v.gen v.prev v.next v'.gen v'.prev v'.next k.slot) where
  -- what a link is made of
  abbrev over : Key → Key
  over z = key_at v' (skip k.slot (v.next k.slot) z.slot)

  stays : (x : Key) → LiveKey v x → LiveKey v k → k ≢ x → LiveKey v' x
  stays x l lk n = let e = X.g_o x.slot (slots_apart v x k l lk (λ e. n (sym e))) in record { live = rw e l.live; gen = e ∙ l.gen }

  linked : (x : Key) → LiveKey v x → LiveKey v k → k ≢ x → (over x ≡ x) × (next_key v' x ≡ over (next_key v x))
  linked x l lk n =
      let e : x.slot ≢ k.slot = slots_apart v x k l lk (λ e. n (sym e)) in (
        ap (key_at v') (skip-past k.slot (v.next k.slot) x.slot e) ∙ key_live v' x (stays x l lk n),
        ap (key_at v') (skips X L x.slot l.live e),
      )

  others : (zs : List Key) → ((s : ℕ) → v.gen s ≢ 0 → In (key_at v s) (k ∷ zs)) → (s : ℕ) → v'.gen s ≢ 0 → In (key_at v' s) zs
  others zs whole s h =
      let e : s ≢ k.slot = λ q. h (ap v'.gen q ∙ X.g_x) in
      rw (key-at v v' s (X.g_o s e)) (go e (whole s (rw (X.g_o s e) at h)))
    where
      go : s ≢ k.slot → In (key_at v s) (k ∷ zs) → In (key_at v s) zs
      go e (inl q) = absurd (e (ap (λ (x : Key). x.slot) q))
      go e (inr m) = m

  pub rep_dropped : (xs : List Key) (hs : List (List Key)) → Rep v ((k ∷ xs) ∷ hs) → Rep v' (going_on xs hs)
  rep_dropped [] hs R = record {
    rings = cycles_map over (next_key v) (next_key v') hs (all_both (λ x l n. linked x l R.live.0 n) (flat hs) R.live.1 R.once.0) R.rings.1;
    live = all_both (λ x l n. stays x l R.live.0 n) (flat hs) R.live.1 R.once.0;
    once = R.once.1;
    whole = others (flat hs) R.whole;
  }
  rep_dropped (j ∷ ys) hs R =
      let lk = R.live.0 in
      let all = all_both (λ x l n. linked x l lk n) (j ∷ (ys ++ flat hs)) R.live.1 R.once.0 in
      let parts = all_parts (λ x. (over x ≡ x) × (next_key v' x ≡ over (next_key v x))) ys (flat hs) all.1 in
      record {
        rings = (
          subst₂ (λ (a b : Key). Walk (next_key v') a b ys) (sym all.0.1)
              (ap (key_at v') (skip-here k.slot (v.next k.slot) ∙ ap (λ (x : Key). x.slot) R.rings.0.0) ∙ key_live v' j (stays j R.live.1.0 lk R.once.0.0))
              (walk-map over (next_key v) (next_key v') (next_key v j) k ys parts.0 R.rings.0.1),
          cycles_map over (next_key v) (next_key v') hs parts.1 R.rings.1,
        );
        live = all_both (λ x l n. stays x l lk n) (j ∷ (ys ++ flat hs)) R.live.1 R.once.0;
        once = R.once.1;
        whole = others (j ∷ (ys ++ flat hs)) R.whole;
      }

-- what a removal does to the links and to the generation, whether the run goes on or not
pub record Left (v v' : View) (x : ℕ) : Type 0 where
  pub links : Excised v.gen v.prev v.next v'.gen v'.prev v'.next x
  pub generation : v'.head.generation ≡ raised v.head.generation

-- state and history together
module _ (st : State) (h : History) (G : Good st h) where
  removed-left : (x : ℕ) → (view st).gen x ≢ 0 → Left (view st) (view (removed st x)) x
  unfolding remove_v
  removed-left x l = go (ℕ_discrete ((view st).count ((view st).class x)) 1)
    where
      go : Dec ((view st).count ((view st).class x) ≡ 1) → Left (view st) (view (removed st x)) x
      go (yes e) = rw (removed-last st G.ready x l e) (record { links = excised (view st) x _ _ _ _ _ (working st G.ready) l (last_one (view st) x (working st G.ready) l e); generation = refl })
      go (no e) = rw (removed-on st G.ready x l e) (record { links = excised (view st) x _ _ _ _ _ (working st G.ready) l (goes_on (view st) x (working st G.ready) l e); generation = refl })

  -- where the run stands first and begins at the key
  pub good-first : (k : Key) (xs : List Key) (hs : List (List Key)) → h.runs ≡ (k ∷ xs) ∷ hs → Good (removed st k.slot) (taking_out h 1 1 (going_on xs hs))
  good-first k xs hs e =
      let R : Rep (view st) ((k ∷ xs) ∷ hs) = rw e at G.rings in
      let q = removed-left k.slot R.live.0.live in
      let dropped = rep_dropped (view st) (view (removed st k.slot)) k (working st G.ready).links q.links xs hs R in
      record {
        ready = remove_keeps st G.ready k.slot R.live.0.live;
        rings = dropped;
        seals = seals_fewer (view st) (view (removed st k.slot)) (removed-fewer st G.ready k.slot R.live.0.live) (going_on xs hs) dropped h.sealed G.seals;
        sizes = givens_fewer (view st) (view (removed st k.slot)) (removed-fewer st G.ready k.slot R.live.0.live) (going_on xs hs) dropped h.sizes G.sizes;
        generation = q.generation ∙ ap raised G.generation;
        counts = omega (arith, one_less xs hs, ap (λ (rs : List (List Key)). length (flat rs)) e, G.counts);
      }
    where
      one_less : (xs : List Key) (hs : List (List Key)) → suc (length (flat (going_on xs hs))) ≡ length (flat ((k ∷ xs) ∷ hs))
      one_less [] hs = refl
      one_less (j ∷ ys) hs = refl

pub good-remove : (st : State) (h : History) → Good st h → (k : Key) → LiveKey (view st) k → (values : List ℕ) → Good (removed st k.slot) (accepted h (remove k) values)
unfolding removed_runs
good-remove st h G k l values = good-first st (with_runs h (run_of k h.runs ∷ runs_but k h.runs)) (good-same (run_of k h.runs ∷ runs_but k h.runs) (key_fronted st h G k l) G) k (others_of k h.runs) (runs_but k h.runs) refl
