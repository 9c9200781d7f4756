-- Lists: every member, membership, none twice; and the walk along a next-function.
use mathlib.Core.Path.{◌≡◌, refl, sym, ap, ◌∙◌, subst₂}
use mathlib.Core.Logic.{◌≢◌, ◌⊎◌, inl, inr}
use mathlib.Core.List.{List, [], ◌∷◌, ◌++◌, map, append-nil}
use Rattle.rules.specs.Notation
use Rattle.rules.specs.Notation.{flat}

module _ {A : Type 0} where
  abbrev pub All : (A → Type 0) → List A → Type 0
  All P xs = Notation.All P xs

  abbrev pub In : A → List A → Type 0
  In x [] = ⊥
  In x (y ∷ ys) = (x ≡ y) ⊎ In x ys

  abbrev pub Out : A → List A → Type 0
  Out x ys = All (λ y. x ≢ y) ys

  abbrev pub NoDup : List A → Type 0
  NoDup [] = Unit {0}
  NoDup (x ∷ xs) = Out x xs × NoDup xs

  pub all_map : {P Q : A → Type 0} → ((x : A) → P x → Q x) → (xs : List A) → All P xs → All Q xs
  all_map f [] h = tt
  all_map f (x ∷ xs) h = (f x h.0, all_map f xs h.1)

  pub all-at : (P : A → Type 0) (x : A) (xs : List A) → All P xs → In x xs → P x
  all-at P x [] h x3 = elim x3 [ ]
  all-at P x (y ∷ ys) h (inl e) = rw e h.0
  all-at P x (y ∷ ys) h (inr m) = all-at P x ys h.1 m

  -- two properties give a third
  pub all_both : {P Q R : A → Type 0} → ((x : A) → P x → Q x → R x) → (xs : List A) → All P xs → All Q xs → All R xs
  all_both f [] h k = tt
  all_both f (x ∷ xs) h k = (f x h.0 k.0, all_both f xs h.1 k.1)

  pub all_of : (P : A → Type 0) (xs : List A) → ((x : A) → In x xs → P x) → All P xs
  all_of P [] f = tt
  all_of P (x ∷ xs) f = (f x (inl refl), all_of P xs (λ y m. f y (inr m)))

  pub all_append : (P : A → Type 0) (xs ys : List A) → All P xs → All P ys → All P (xs ++ ys)
  all_append P [] ys h k = k
  all_append P (x ∷ xs) ys h k = (h.0, all_append P xs ys h.1 k)

  pub all_parts : (P : A → Type 0) (xs ys : List A) → All P (xs ++ ys) → All P xs × All P ys
  all_parts P [] ys h = (tt, h)
  all_parts P (x ∷ xs) ys h = let r = all_parts P xs ys h.1 in ((h.0, r.0), r.1)

  pub in_left : (a : A) (xs ys : List A) → In a xs → In a (xs ++ ys)
  in_left a [] ys x' = elim x' [ ]
  in_left a (x ∷ xs) ys (inl e) = inl e
  in_left a (x ∷ xs) ys (inr m) = inr (in_left a xs ys m)

  pub in_right : (a : A) (xs ys : List A) → In a ys → In a (xs ++ ys)
  in_right a [] ys m = m
  in_right a (x ∷ xs) ys m = inr (in_right a xs ys m)

  pub in_parts : (a : A) (xs ys : List A) → In a (xs ++ ys) → In a xs ⊎ In a ys
  in_parts a [] ys m = inr m
  in_parts a (x ∷ xs) ys (inl e) = inl (inl e)
  in_parts a (x ∷ xs) ys (inr m) = go (in_parts a xs ys m)
    where
      go : In a xs ⊎ In a ys → In a (x ∷ xs) ⊎ In a ys
      go (inl k) = inl (inr k)
      go (inr k) = inr k

  pub in_swap : (a : A) (xs ys : List A) → In a (xs ++ ys) → In a (ys ++ xs)
  in_swap a xs ys m = go (in_parts a xs ys m)
    where
      go : In a xs ⊎ In a ys → In a (ys ++ xs)
      go (inl k) = in_right a ys xs k
      go (inr k) = in_left a ys xs k

  -- a member cuts the list
  unfoldable pub in_cut : (a : A) (xs : List A) → In a xs → (p : List A) × (q : List A) × (xs ≡ p ++ a ∷ q)
  in_cut a [] x' = elim x' [ ]
  in_cut a (x ∷ xs) (inl e) = ([], xs, rw e)
  in_cut a (x ∷ xs) (inr m) = let r = in_cut a xs m in (x ∷ r.0, r.1, ap {B = List A} (λ l. x ∷ l) r.2)

  pub nodup_parts : (xs ys : List A) → NoDup (xs ++ ys) → NoDup xs × NoDup ys × All (λ x. Out x ys) xs
  nodup_parts [] ys h = (tt, h, tt)
  nodup_parts (x ∷ xs) ys h =
      let r = nodup_parts xs ys h.1 in
      let o = all_parts (λ y. x ≢ y) xs ys h.0 in
      ((o.0, r.0), r.1, (o.1, r.2))

  pub nodup_append : (xs ys : List A) → NoDup xs → NoDup ys → All (λ x. Out x ys) xs → NoDup (xs ++ ys)
  nodup_append [] ys h k o = k
  nodup_append (x ∷ xs) ys h k o = (all_append (λ y. x ≢ y) xs ys h.0 o.0, nodup_append xs ys h.1 k o.1)

  pub across : (xs ys : List A) → All (λ x. Out x ys) xs → All (λ y. Out y xs) ys
  across xs ys o = all_of (λ y. Out y xs) ys (λ y m. all_of (λ x. y ≢ x) xs (λ x k e. all-at (λ z. x ≢ z) y ys (all-at (λ z. Out z ys) x xs o k) m (sym e)))

  pub nodup_swap : (xs ys : List A) → NoDup (xs ++ ys) → NoDup (ys ++ xs)
  nodup_swap xs ys h = let r = nodup_parts xs ys h in nodup_append ys xs r.1 r.0 (across xs ys r.2)

  -- outside is not a member
  pub out_of : (a : A) (xs : List A) → (In a xs → ⊥) → Out a xs
  out_of a xs n = all_of (λ x. a ≢ x) xs (λ x m e. n (rw e m))

  pub out-not : (a : A) (xs : List A) → Out a xs → In a xs → ⊥
  out-not a xs o m = all-at (λ x. a ≢ x) a xs o m refl

  -- a property tells a member from what is outside
  pub out-by : (P : A → Type 0) (a : A) (xs : List A) → (P a → ⊥) → All P xs → Out a xs
  out-by P a xs not h = all_map (λ y p e. not (rw e p)) xs h

module _ {A : Type 0} where
  -- Following `n` from `a` one meets the list and then stands at `b`.
  abbrev pub Walk : (A → A) → A → A → List A → Type 0
  Walk n a b [] = a ≡ b
  Walk n a b (x ∷ xs) = (a ≡ x) × Walk n (n x) b xs

  pub walk-frame : (n m : A → A) (a b : A) (xs : List A) → All (λ x. m x ≡ n x) xs → Walk n a b xs → Walk m a b xs
  walk-frame n m a b [] h w = w
  walk-frame n m a b (x ∷ xs) h w = (w.0, rw h.0 (walk-frame n m (n x) b xs h.1 w.1))

  -- the same where links change, but only to what `f` makes of them, and `f` leaves the list alone
  pub walk-map : (f n m : A → A) (a b : A) (xs : List A) → All (λ x. (f x ≡ x) × (m x ≡ f (n x))) xs → Walk n a b xs → Walk m (f a) (f b) xs
  walk-map f n m a b [] h w = ap f w
  walk-map f n m a b (x ∷ xs) h w = (ap f w.0 ∙ h.0.0, rw h.0.1 (walk-map f n m (n x) b xs h.1 w.1))

  pub walk-cut : (n : A → A) (a b y : A) (p q : List A) → Walk n a b (p ++ y ∷ q) → Walk n a y p × Walk n (n y) b q
  walk-cut n a b y [] q w = w
  walk-cut n a b y (x ∷ p) q w = let r = walk-cut n (n x) b y p q w.1 in ((w.0, r.0), r.1)

  pub walk-join : (n : A → A) (a b y : A) (p q : List A) → Walk n a y p → Walk n (n y) b q → Walk n a b (p ++ y ∷ q)
  walk-join n a b y [] q v w = (v, w)
  walk-join n a b y (x ∷ p) q v w = (v.0, walk-join n (n x) b y p q v.1 w)

  -- a ring, begun at another of its frames
  pub walk_turn : (n : A → A) (x y : A) (p q : List A) → Walk n (n x) x (p ++ y ∷ q) → Walk n (n y) y (q ++ x ∷ p)
  walk_turn n x y p q w = let r = walk-cut n (n x) x y p q w in walk-join n (n y) y x q p r.1 r.0

  -- from one place to another, not met before, there is one walk
  pub walk-only : (n : A → A) (a b : A) (xs ys : List A) → Out b xs → Out b ys → Walk n a b xs → Walk n a b ys → xs ≡ ys
  walk-only n a b [] [] o p v w = refl
  walk-only n a b [] (y ∷ ys) o p v w = absurd (p.0 (sym v ∙ w.0))
  walk-only n a b (x ∷ xs) [] o p v w = absurd (o.0 (sym w ∙ v.0))
  walk-only n a b (x ∷ xs) (y ∷ ys) o p v w =
      let e : y ≡ x = sym w.0 ∙ v.0 in
      rw e (ap {B = List A} (λ l. x ∷ l) (walk-only n (n x) b xs ys o.1 p.1 v.1 (rw e at w.1)))

  -- the list is a ring of `n`
  abbrev pub Cycle : (A → A) → List A → Type 0
  Cycle n [] = ⊥
  Cycle n (x ∷ xs) = Walk n (n x) x xs

  pub cycle_turn : (n : A → A) (p : List A) (y : A) (q : List A) → Cycle n (p ++ y ∷ q) → Cycle n (y ∷ (q ++ p))
  cycle_turn n [] y q w = rw append-nil w
  cycle_turn n (x ∷ p) y q w = walk_turn n x y p q w

  pub cycle_frame : (n m : A → A) (xs : List A) → All (λ x. m x ≡ n x) xs → Cycle n xs → Cycle m xs
  cycle_frame n m [] h w = elim w [ ]
  cycle_frame n m (x ∷ xs) h w = rw h.0 (walk-frame n m (n x) x xs h.1 w)

  pub cycles_frame : (n m : A → A) (h : List (List A)) → All (λ x. m x ≡ n x) (flat h) → All (Cycle n) h → All (Cycle m) h
  cycles_frame n m [] e c = tt
  cycles_frame n m (r ∷ h) e c = let p = all_parts (λ x. m x ≡ n x) r (flat h) e in (cycle_frame n m r p.0 c.0, cycles_frame n m h p.1 c.1)

  pub cycles_map : (f n m : A → A) (h : List (List A)) → All (λ x. (f x ≡ x) × (m x ≡ f (n x))) (flat h) → All (Cycle n) h → All (Cycle m) h
  cycles_map f n m [] e c = tt
  cycles_map f n m ([] ∷ h) e c = absurd c.0
  cycles_map f n m ((x ∷ xs) ∷ h) e c =
      let p = all_parts (λ x. (f x ≡ x) × (m x ≡ f (n x))) (x ∷ xs) (flat h) e in
      (subst₂ (λ (a b : A). Walk m a b xs) (sym p.0.0.1) p.0.0.0 (walk-map f n m (n x) x xs p.0.1 c.0), cycles_map f n m h p.1 c.1)

  pub all-flat : (P : A → Type 0) (h : List (List A)) → All P (flat h) → All (All P) h
  all-flat P [] a = tt
  all-flat P (r ∷ h) a = let p = all_parts P r (flat h) a in (p.0, all-flat P h p.1)

  unfoldable pub in_dec : ((x y : A) → Dec (x ≡ y)) → (a : A) (xs : List A) → Dec (In a xs)
  in_dec eq a [] = no (λ m. m)
  in_dec eq a (x ∷ xs) = go (eq a x) (in_dec eq a xs)
    where
      go : Dec (a ≡ x) → Dec (In a xs) → Dec (In a (x ∷ xs))
      go (yes e) d = yes (inl e)
      go (no e) (yes m) = yes (inr m)
      go (no e) (no m) = no (nor e m)
        where
          nor : (a ≡ x → ⊥) → (In a xs → ⊥) → In a (x ∷ xs) → ⊥
          nor e m (inl q) = e q
          nor e m (inr q) = m q

module _ {A B : Type 0} (f : A → B) where
  pub in_map : (a : A) (xs : List A) → In a xs → In (f a) (map f xs)
  in_map a [] x' = elim x' [ ]
  in_map a (x ∷ xs) (inl e) = inl (ap f e)
  in_map a (x ∷ xs) (inr m) = inr (in_map a xs m)

  -- what is in an image is the image of a member
  pub in_image : (b : B) (xs : List A) → In b (map f xs) → (a : A) × In a xs × (b ≡ f a)
  in_image b [] x' = elim x' [ ]
  in_image b (x ∷ xs) (inl e) = (x, inl refl, e)
  in_image b (x ∷ xs) (inr m) = let r = in_image b xs m in (r.0, inr r.1, r.2)

  pub all_image : (P : B → Type 0) (xs : List A) → All (λ a. P (f a)) xs → All P (map f xs)
  all_image P [] h = tt
  all_image P (x ∷ xs) h = (h.0, all_image P xs h.1)

  -- none twice, where members that differ have images that differ
  pub nodup_image : (P : A → Type 0) (xs : List A) → ((a b : A) → P a → P b → a ≢ b → f a ≢ f b) → All P xs → NoDup xs → NoDup (map f xs)
  nodup_image P [] h p d = tt
  nodup_image P (x ∷ xs) h p d = (all_image (λ b. f x ≢ b) xs (all_both (λ y q o. h x y p.0 q o) xs p.1 d.0), nodup_image P xs h p.1 d.1)

  pub walk_image : (n : A → A) (m : B → B) → ((x : A) → f (n x) ≡ m (f x)) → (a b : A) (xs : List A) → Walk n a b xs → Walk m (f a) (f b) (map f xs)
  walk_image n m c a b [] w = ap f w
  walk_image n m c a b (x ∷ xs) w = (ap f w.0, rw (c x) at (walk_image n m c (n x) b xs w.1))
