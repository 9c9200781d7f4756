-- Union steps the history: the run of one key is put in after the other (Rules 6).
use mathlib.Core.Path.{◌≡◌, refl, sym, ap, ◌∙◌, subst, subst⁻¹}
use mathlib.Core.Logic.{◌≢◌, ◌⊎◌, inl, inr}
use mathlib.Core.List.{List, ◌∷◌, ◌++◌, append_assoc}
use Prim.Native.Nat.{ℕ}
use native.Mathlib.Omega.{arith}
use lib.ListN.{length, length-append}
use Rattle.rules.specs.declared.Key.{Key}
use Rattle.rules.specs.Notation.{flat}
use Rattle.rules.specs.Tables.{State}
use Rattle.rules.specs.Slots.{free_shared}
use Rattle.rules.specs.Runs.{joined}
use Rattle.rules.specs.Calls.{Ready, union}
use Rattle.rules.specs.History.{History, frames, accepted, others_of, run_of, runs_but, joined_runs}
use Rattle.rules.proofs.Laws.Lists.{In, NoDup, all_both, all-at, all_of, all_append, all_parts, in_left, in_right, in_parts, nodup_parts, nodup_append, across, cycles_frame, walk-frame, walk-join}
use Rattle.rules.proofs.Laws.Working.{View, view, Working}
use Rattle.rules.proofs.Laws.Links.{Exchanged, exchanged-sym}
use Rattle.rules.proofs.Laws.Safe.{working}
use Rattle.rules.proofs.Laws.Union.{joined_v, links-exchanged, joined_view, joined_keeps}
use Rattle.rules.proofs.Laws.Fronted.{Same, under, via, same_length, in_over, nodup_over, fronted, others_but}
use Rattle.rules.proofs.Laws.Rep.{key_at, next_key, LiveKey, Rep, rep_same, slots_apart, held, key-at}
use Rattle.rules.proofs.Laws.Classes.{first_run, one_class}
use Rattle.rules.proofs.Laws.Steady.{mark_at, Steady, joined_steady}
use Rattle.rules.proofs.Laws.Seals.{seals_steady}
use Rattle.rules.proofs.Laws.Givens.{givens_same}
use Rattle.rules.proofs.Laws.Good.{Good}

nodup_exchange : (a b : Key) (xs ys : List Key) → NoDup (b ∷ (ys ++ a ∷ xs)) → NoDup (a ∷ (ys ++ b ∷ xs))
nodup_exchange a b xs ys d =
    let o = all_parts (λ y. b ≢ y) ys (a ∷ xs) d.0 in
    let p = nodup_parts ys (a ∷ xs) d.1 in (
      all_append (λ y. a ≢ y) ys (b ∷ xs) (across ys (a ∷ xs) p.2).0 ((λ e. o.1.0 (sym e)), p.1.0),
      nodup_append ys (b ∷ xs) p.0 (o.1.1, p.1.1) (all_both (λ y n m. ((λ e. n (sym e)), m.1)) ys o.0 p.2),
    )

pub in_exchange : (x a b : Key) (xs ys : List Key) → In x (b ∷ (ys ++ a ∷ xs)) → In x (a ∷ (ys ++ b ∷ xs))
in_exchange x a b xs ys (inl e) = inr (in_right x ys (b ∷ xs) (inl e))
in_exchange x a b xs ys (inr m) = go (in_parts x ys (a ∷ xs) m)
  where
    go : In x ys ⊎ In x (a ∷ xs) → In x (a ∷ (ys ++ b ∷ xs))
    go (inl m) = inr (in_left x ys (b ∷ xs) m)
    go (inr (inl e)) = inl e
    go (inr (inr m)) = inr (in_right x ys (b ∷ xs) (inr m))

module _ (v v' : View) (a b : Key) (X : Exchanged v.prev v.next v'.prev v'.next a.slot b.slot) (g_same : (s : ℕ) → v'.gen s ≡ v.gen s) where
  rep_between : (xs ys : List Key) (hs : List (List Key)) → Rep v ((b ∷ ys) ∷ (a ∷ xs) ∷ hs) → Rep v' ((a ∷ (ys ++ b ∷ xs)) ∷ hs)
  rep_between xs ys hs R =
      let o = all_parts (λ y. b ≢ y) ys (a ∷ (xs ++ flat hs)) R.once.0 in
      let p = nodup_parts ys (a ∷ (xs ++ flat hs)) R.once.1 in
      let l = all_parts (LiveKey v) ys (a ∷ (xs ++ flat hs)) R.live.1 in
      let la : LiveKey v a = l.1.0 in
      let same_ys = all_both (λ x f m. f m) ys (all_both (λ x. next_o x la R.live.0) ys l.0 (across ys (a ∷ (xs ++ flat hs)) p.2).0) o.0 in
      let same_zs = all_both (λ x f m. f m) (xs ++ flat hs) (all_both (λ x. next_o x la R.live.0) (xs ++ flat hs) l.1.1 p.1.0) o.1.1 in
      let z = all_parts (λ x. next_key v' x ≡ next_key v x) xs (flat hs) same_zs in
      let d : NoDup ((b ∷ (ys ++ a ∷ xs)) ++ flat hs) = rw append_assoc R.once in
      record {
        rings = (
          rw next_a (walk-join (next_key v') (next_key v b) a b ys xs (walk-frame (next_key v) (next_key v') (next_key v b) b ys same_ys R.rings.0)
              (rw next_b (walk-frame (next_key v) (next_key v') (next_key v a) a xs z.0 R.rings.1.0))),
          cycles_frame (next_key v) (next_key v') hs z.1 R.rings.1.1,
        );
        live = all_of (LiveKey v') ((a ∷ (ys ++ b ∷ xs)) ++ flat hs) (λ x m. stays x (all-at (LiveKey v) x (flat ((b ∷ ys) ∷ (a ∷ xs) ∷ hs)) R.live
            (subst (λ (l : List Key). In x l) shape (in_over x (a ∷ (ys ++ b ∷ xs)) (b ∷ (ys ++ a ∷ xs)) (flat hs) (in_exchange x b a xs ys) m))));
        once = nodup_over (b ∷ (ys ++ a ∷ xs)) (a ∷ (ys ++ b ∷ xs)) (flat hs) (λ x. in_exchange x b a xs ys) (nodup_exchange a b xs ys (nodup_parts (b ∷ (ys ++ a ∷ xs)) (flat hs) d).0) d;
        whole = λ s h. subst⁻¹ (λ (j : Key). In j ((a ∷ (ys ++ b ∷ xs)) ++ flat hs)) (keeps s) (in_over (key_at v s) (b ∷ (ys ++ a ∷ xs)) (a ∷ (ys ++ b ∷ xs)) (flat hs) (in_exchange (key_at v s) a b xs ys) (subst⁻¹ (λ (l : List Key). In (key_at v s) l) shape (R.whole s (rw (g_same s) at h))));
      }
    where
      shape : (b ∷ (ys ++ a ∷ xs)) ++ flat hs ≡ flat ((b ∷ ys) ∷ (a ∷ xs) ∷ hs)
      shape = ap {B = List Key} (λ l. b ∷ l) (append_assoc ys (a ∷ xs) (flat hs))

      keeps : (s : ℕ) → key_at v' s ≡ key_at v s
      keeps s = key-at v v' s (g_same s)

      stays : (x : Key) → LiveKey v x → LiveKey v' x
      stays x l = record { live = rw (g_same x.slot) l.live; gen = g_same x.slot ∙ l.gen }

      next_a : next_key v' a ≡ next_key v b
      next_a = ap (key_at v') X.n_a ∙ keeps (v.next b.slot)

      next_b : next_key v' b ≡ next_key v a
      next_b = ap (key_at v') X.n_b ∙ keeps (v.next a.slot)

      next_o : (x : Key) → LiveKey v a → LiveKey v b → LiveKey v x → a ≢ x → b ≢ x → next_key v' x ≡ next_key v x
      next_o x la lb l n m = ap (key_at v') (X.n_o x.slot (slots_apart v x a l la (λ e. n (sym e))) (slots_apart v x b l lb (λ e. m (sym e)))) ∙ keeps (v.next x.slot)

module _ (v : View) (S : Working v) (a b : Key) (la : LiveKey v a) (lb : LiveKey v b) (differ : v.class a.slot ≢ v.class b.slot) where
  -- both runs come to the front
  pub both_fronted : (h : List (List Key)) → Rep v h → Same h (run_of b h ∷ run_of a h ∷ runs_but a (runs_but b h))
  both_fronted h R =
      let f = fronted b h R.once (held v h b R lb) in
      let Rb : Rep v (run_of b h ∷ runs_but b h) = rep_same v f R in
      let m : In a (flat (runs_but b h)) = elsewhere (others_of b h) (runs_but b h) Rb (held v (run_of b h ∷ runs_but b h) a Rb la) in
      let d : NoDup (flat (runs_but b h)) = (nodup_parts (run_of b h) (flat (runs_but b h)) Rb.once).1 in
      rw (← (others_but a b h R.once (held v h b R lb) m)) (via f (under (fronted a (runs_but b h) d m)))
    where
      elsewhere : (ys : List Key) (hs : List (List Key)) → Rep v ((b ∷ ys) ∷ hs) → In a ((b ∷ ys) ++ flat hs) → In a (flat hs)
      elsewhere ys hs R m = go (in_parts a (b ∷ ys) (flat hs) m)
        where
          go : In a (b ∷ ys) ⊎ In a (flat hs) → In a (flat hs)
          go (inl k) = absurd (differ (all-at (λ x. v.class x.slot ≡ v.class b.slot) a (b ∷ ys) (one_class v S b ys (first_run v (b ∷ ys) hs R)) k))
          go (inr k) = k

  pub rep_union : (v' : View) → Exchanged v.prev v.next v'.prev v'.next a.slot b.slot → ((s : ℕ) → v'.gen s ≡ v.gen s) → (h : List (List Key)) → Rep v h → Rep v' (joined_runs a b h)
  unfolding joined_runs
  rep_union v' X g_same h R = rep_between v v' a b X g_same (others_of a h) (others_of b h) (runs_but a (runs_but b h)) (rep_same v (both_fronted h R) R)

-- state and history together, whichever class is kept
module _ (st : State) (h : History) (G : Good st h) (j k : Key) (lj : LiveKey (view st) j) (lk : LiveKey (view st) k) (differ : (view st).class j.slot ≢ (view st).class k.slot)
    (unsealed_j : mark_at (view st) j.slot ≡ 0) (unsealed_k : mark_at (view st) k.slot ≡ 0) where
  abbrev crossed : ℕ → ℕ → Type 0
  crossed x y = Exchanged (view st).prev (view st).next (joined_v (view st) x y).prev (joined_v (view st) x y).next j.slot k.slot

  rings : (x y : ℕ) → view (joined st x y) ≡ joined_v (view st) x y → crossed x y → Rep (view (joined st x y)) (joined_runs j k h.runs)
  unfolding joined_v
  rings x y e X = rw e (rep_union (view st) (working st G.ready) j k lj lk differ (joined_v (view st) x y) X (λ s. refl) h.runs G.rings)

  frames-same : length (flat (joined_runs j k h.runs)) ≡ frames h
  unfolding joined_runs
  frames-same = simp length-append (omega (arith, simp length-append at (same_length (both_fronted (view st) (working st G.ready) j k lj lk differ h.runs G.rings))))

  good : (x y : ℕ) (values : List ℕ) → view (joined st x y) ≡ joined_v (view st) x y → Rep (view (joined st x y)) (joined_runs j k h.runs) → Ready (joined st x y) → Steady (view st) (view (joined st x y)) → Good (joined st x y) (accepted h (union j k) values)
  unfolding joined free_shared joined_v
  good x y values e R Y F = record { ready = Y; rings = R; generation = G.generation; seals = seals_steady (view st) (view (joined st x y)) F h.sealed G.seals; sizes = givens_same (view st) (view (joined st x y)) (ap (λ (v : View). v.gen) e) (ap (λ (v : View). v.bytes) e) h.sizes G.sizes; counts = omega (arith, frames-same, G.counts) }

  pub good-first : (values : List ℕ) → Good (joined st j.slot k.slot) (accepted h (union j k) values)
  good-first values = good j.slot k.slot values (joined_view st G.ready j.slot k.slot lj.live lk.live) (rings j.slot k.slot (joined_view st G.ready j.slot k.slot lj.live lk.live) (links-exchanged (view st) j.slot k.slot (working st G.ready) lj.live lk.live differ))
      (joined_keeps st G.ready j.slot k.slot lj.live lk.live differ) (joined_steady st G.ready j.slot k.slot lj.live lk.live differ unsealed_j unsealed_k)

  pub good-second : (values : List ℕ) → Good (joined st k.slot j.slot) (accepted h (union j k) values)
  good-second values = good k.slot j.slot values (joined_view st G.ready k.slot j.slot lk.live lj.live) (rings k.slot j.slot (joined_view st G.ready k.slot j.slot lk.live lj.live) (exchanged-sym (links-exchanged (view st) k.slot j.slot (working st G.ready) lk.live lj.live (λ e. differ (sym e)))))
      (joined_keeps st G.ready k.slot j.slot lk.live lj.live (λ e. differ (sym e))) (joined_steady st G.ready k.slot j.slot lk.live lj.live (λ e. differ (sym e)) unsealed_k unsealed_j)
