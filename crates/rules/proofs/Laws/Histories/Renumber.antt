-- Where all slots are renumbered, the tables hold the history with every key renamed: the same runs, each in its order.
use mathlib.Core.Path.{◌≡◌, refl, sym, ap, ◌∙◌}
use mathlib.Core.List.{List, [], ◌∷◌, map, map-append}
use Rattle.rules.specs.declared.Key.{Key}
use Rattle.rules.specs.Notation.{flat}
use Rattle.rules.proofs.Laws.Lists.{All, In, Cycle, all_map, all-flat, all_image, in_map, nodup_image}
use Rattle.rules.proofs.Laws.Working.{View, Working}
use Rattle.rules.proofs.Laws.Renumber.{Renaming, Renumbered, walk_carried, by_old}
use Rattle.rules.proofs.Laws.Rep.{key_at, next_key, LiveKey, Rep, slots_apart}

pub flat_image : {A B : Type 0} (f : A → B) (h : List (List A)) → flat (map (map f) h) ≡ map f (flat h)
flat_image f [] = refl
flat_image f (r ∷ h) = rw (flat_image f h, map-append)

module _ (v v' : View) (m : Renaming) (N : Renumbered v v' m) (S : Working v) where
  -- the key of the frame that a key named
  abbrev pub rekeyed : Key → Key
  rekeyed k = key_at v' (m.new k.slot)

  cycles_image : (h : List (List Key)) → All (All (LiveKey v)) h → All (Cycle (next_key v)) h → All (Cycle (next_key v')) (map (map rekeyed) h)
  cycles_image [] l c = tt
  cycles_image ([] ∷ h) l c = absurd c.0
  cycles_image ((x ∷ xs) ∷ h) l c =
      (rw (step x l.0.0) (walk_carried rekeyed (next_key v) (next_key v') (next_key v x) x xs (all_map step xs l.0.1) c.0), cycles_image h l.1 c.1)
    where
      step : (k : Key) → LiveKey v k → next_key v' (rekeyed k) ≡ rekeyed (next_key v k)
      step k l = ap (key_at v') (N.nexts k.slot l.live)

  pub rep_renumbered : (h : List (List Key)) → Rep v h → Rep v' (map (map rekeyed) h)
  rep_renumbered h R = record {
    rings = cycles_image h (all-flat (LiveKey v) h R.live) R.rings;
    live = rw (flat_image rekeyed h) (all_image rekeyed (LiveKey v') (flat h) (all_map (λ k l. record { live = (N.out k.slot l.live).0; gen = refl }) (flat h) R.live));
    once = rw (flat_image rekeyed h) (nodup_image rekeyed (LiveKey v) (flat h) (λ x y l k n e. slots_apart v x y l k n (sym (N.out x.slot l.live).1 ∙ ap m.old (ap (λ (k : Key). k.slot) e) ∙ (N.out y.slot k.live).1)) R.live R.once);
    whole = by_old v v' m N S (λ t. In (key_at v' t) (flat (map (map rekeyed) h))) (λ s l. rw (flat_image rekeyed h) (in_map rekeyed (key_at v s) (flat h) (R.whole s l)));
  }
