-- The canonical order of a sound state (Rules 14) lists exactly the frames, none twice; and its classes exactly the headers.
use Rattle.std.specs.Prelude.{if◌then◌else◌}
use mathlib.Core.Path.{◌≡◌, refl, sym, ap, ◌∙◌, subst}
use mathlib.Core.Logic.{◌≢◌, ◌⊎◌, inl, inr}
use mathlib.Core.List.{List, [], ◌∷◌, ◌++◌, map, map-append, append-nil, append_assoc}
use mathlib.Core.Bool.{Bool, true, false, ◌&&◌}
use Prim.Native.Nat.{ℕ, zero, suc, ◌+◌, ◌≤◌, ◌<◌}
use native.Mathlib.Omega.{arith}
use native.Mathlib.Decide.{ℕ_discrete}
use lib.ListN.{length}
use Rattle.rules.specs.Notation.{◌≤?◌, along, up_to, flat, keep, every}
use Rattle.rules.specs.Tables.{class_of, State, elem_side, is_live}
use Rattle.rules.specs.Calls.{Is}
use Rattle.rules.specs.Drains.{ring}
use Rattle.rules.specs.Compress.{is_lowest, lowest_slots, canonical_frames, canonical_classes}
use Rattle.rules.proofs.Laws.Tests.{is_true, is_false, is_of, le_is}
use Rattle.rules.proofs.Laws.Lists.{All, In, NoDup, Walk, all_map, all-at, all_append, in_left, in_right, nodup_append, out-by}
use Rattle.rules.proofs.Laws.Steps.{walk-along}
use Rattle.rules.proofs.Laws.Sides.{live_of, live_to}
use Rattle.rules.proofs.Laws.Pools.{live_in}
use Rattle.rules.proofs.Laws.Working.{View, view, Frame, Ring, Working}
use Rattle.rules.proofs.Laws.Soundness.{ring-at}

-- a list of exactly the live slots, none twice
pub record Listed (g : ℕ → ℕ) (xs : List ℕ) : Type 0 where
  pub once : NoDup xs
  pub live : All (λ s. g s ≢ 0) xs
  pub whole : (s : ℕ) → g s ≢ 0 → In s xs

-- ---- lists
along-end : (k a : ℕ) → along suc (suc k) a ≡ along suc k a ++ (a + k) ∷ []
along-end zero a = let e : a + zero ≡ a = omega arith in rw e
along-end (suc k) a = let e : a + suc k ≡ suc a + k = omega arith in rw e (ap {B = List ℕ} (λ l. a ∷ l) (along-end k (suc a)))

keep_append : (test : ℕ → Bool) (xs ys : List ℕ) → keep test (xs ++ ys) ≡ keep test xs ++ keep test ys
keep_append test [] ys = refl
keep_append test (x ∷ xs) ys = go (test x) (keep_append test xs ys)
  where
    go : (b : Bool) → keep test (xs ++ ys) ≡ keep test xs ++ keep test ys → (if b then x ∷ keep test (xs ++ ys) else keep test (xs ++ ys)) ≡ (if b then x ∷ keep test xs else keep test xs) ++ keep test ys
    go true e = ap {B = List ℕ} (λ l. x ∷ l) e
    go false e = e

pub flat_append : (h k : List (List ℕ)) → flat (h ++ k) ≡ flat h ++ flat k
flat_append [] k = refl
flat_append (r ∷ h) k = rw (flat_append h k, append_assoc)

-- ---- the slots looked at so far: the lowest of their rings, the frames of these rings, and the classes
abbrev pub lowest_to : State → ℕ → List ℕ
lowest_to st k = keep (is_lowest st) (up_to k)

abbrev pub frames_to : State → ℕ → List ℕ
frames_to st k = flat (map (ring st) (lowest_to st k))

abbrev pub classes_to : State → ℕ → List ℕ
classes_to st k = map (class_of st.elems) (lowest_to st k)

pub frames-to : (st : State) → canonical_frames st ≡ frames_to st st.head.elems.extent
unfolding canonical_frames lowest_slots
frames-to st = refl

pub classes-to : (st : State) → canonical_classes st ≡ classes_to st st.head.elems.extent
unfolding canonical_classes lowest_slots
classes-to st = refl

pub lowest_more : (st : State) (k : ℕ) (b : Bool) → is_lowest st (suc k) ≡ b → lowest_to st (suc k) ≡ lowest_to st k ++ (if b then suc k ∷ [] else [])
lowest_more st k b e =
    let z : 1 + k ≡ suc k = omega arith in
    let more : up_to (suc k) ≡ up_to k ++ suc k ∷ [] = rw z at (along-end k 1) in
    ap (keep (is_lowest st)) more ∙ keep_append (is_lowest st) (up_to k) (suc k ∷ []) ∙ rw e

-- ---- the ring of a frame
abbrev pub Mine : State → ℕ → ℕ → Type 0
Mine st x s = Frame (view st).gen (view st).class ((view st).class x) s

pub record Round (st : State) (x : ℕ) (r : List ℕ) : Type 0 where
  pub rest : List ℕ
  pub begins : r ≡ x ∷ rest
  pub round : Walk (view st).next ((view st).next x) x rest
  pub once : NoDup r
  pub frames : All (Mine st x) r
  pub whole : (s : ℕ) → Mine st x s → In s r
  pub sized : length r ≡ (view st).count ((view st).class x)

along-ring : {g cl n : ℕ → ℕ} {c x k : ℕ} (r : Ring g cl n c x k) → along n k x ≡ x ∷ r.rest
along-ring {g} {cl} {n} {c} {x} {k} r = go r.rest r.round r.sized
  where
    go : (xs : List ℕ) → Walk n (n x) x xs → suc (length xs) ≡ k → along n k x ≡ x ∷ xs
    go xs w e = rw (← e, walk-along n (n x) x xs w)

pub round : (st : State) → Working (view st) → (x : ℕ) → (view st).gen x ≢ 0 → Round st x (ring st x)
round st S x h = go (ring-at (view st) S x h)
  where
    go : Ring (view st).gen (view st).class (view st).next ((view st).class x) x ((view st).count ((view st).class x)) → Round st x (ring st x)
    go r =
        let e : ring st x ≡ x ∷ r.rest = along-ring r in
        record {
          rest = r.rest;
          begins = e;
          round = r.round;
          once = rw e r.once;
          frames = rw e r.frames;
          whole = λ s m. rw e (r.whole s m);
          sized = ap length e ∙ r.sized;
        }

-- ---- which slots are the lowest of their rings
pub data Looked (st : State) (x : ℕ) : Bool → Type 0 where
  free : (view st).gen x ≡ 0 → Looked st x false
  first : (view st).gen x ≢ 0 → All (λ y. x ≤ y) (ring st x) → Looked st x true
  later : (view st).gen x ≢ 0 → (z : ℕ) → In z (ring st x) → z < x → Looked st x false

data Least (x : ℕ) (ys : List ℕ) : Bool → Type 0 where
  least : All (λ y. x ≤ y) ys → Least x ys true
  beaten : (z : ℕ) → In z ys → z < x → Least x ys false

least_is : (x : ℕ) (ys : List ℕ) → Least x ys (every (λ y. x ≤? y) ys)
least_is x [] = least tt
least_is x (y ∷ ys) = go (x ≤? y) (le_is x y) (every (λ y. x ≤? y) ys) (least_is x ys)
  where
    go : (b : Bool) → Is (x ≤ y) b → (c : Bool) → Least x ys c → Least x (y ∷ ys) (if b then c else false)
    go true l c (least a) = least (l, a)
    go true l c (beaten z m d) = beaten z (inr m) d
    go false l c k = beaten y (inl refl) (omega arith)

pub live_test : (st : State) → Working (view st) → (x : ℕ) → Is ((view st).gen x ≢ 0) (is_live (elem_side st) x)
live_test st S x =
    is_of (is_live (elem_side st) x) (λ t. (live_of (elem_side st) x t).used)
    (λ h. let l = live_in S.elems x h in live_to (elem_side st) x (record { low = l.0; high = l.1; used = h }))

pub looked : (st : State) → Working (view st) → (x : ℕ) → Looked st x (is_lowest st x)
unfolding is_lowest
looked st S x = go (ℕ_discrete ((view st).gen x) 0) (every (λ y. x ≤? y) (ring st x)) (least_is x (ring st x))
  where
    on : (b : Bool) → (view st).gen x ≢ 0 → Least x (ring st x) b → Looked st x b
    on b h (least a) = first h a
    on b h (beaten z m d) = later h z m d

    go : Dec ((view st).gen x ≡ 0) → (b : Bool) → Least x (ring st x) b → Looked st x (is_live (elem_side st) x && b)
    go (yes e) b k = rw (is_false (is_live (elem_side st) x) (live_test st S x) (λ h. h e)) (free e)
    go (no e) b k = rw (is_true (is_live (elem_side st) x) (live_test st S x) e) (on b e k)

-- ---- the scan
-- the class `c` is that of a live slot that is one of 1 to `k`
pub record Led (st : State) (k c : ℕ) : Type 0 where
  pub by : ℕ
  pub low : 0 < by
  pub high : by ≤ k
  pub live : (view st).gen by ≢ 0
  pub same : (view st).class by ≡ c

pub record Scanned (st : State) (k : ℕ) (xs cs : List ℕ) : Type 0 where
  pub live : All (λ s. (view st).gen s ≢ 0) xs
  pub once : NoDup xs
  pub led : All (λ s. Led st k ((view st).class s)) xs
  pub whole : (c : ℕ) → Led st k c → (s : ℕ) → (view st).gen s ≢ 0 → (view st).class s ≡ c → In s xs
  pub c_live : All (λ c. (view st).count c ≢ 0) cs
  pub c_once : NoDup cs
  pub c_led : All (Led st k) cs
  pub c_whole : (c : ℕ) → Led st k c → In c cs

pub led_more : {st : State} {k c : ℕ} → Led st k c → Led st (suc k) c
led_more l = record { by = l.by; low = l.low; high = omega (arith, l.high); live = l.live; same = l.same }

-- led from 1 to `suc k`: by `suc k`, or from 1 to `k`
pub led_split : {st : State} {k c : ℕ} → Led st (suc k) c → ((view st).gen (suc k) ≢ 0 × (view st).class (suc k) ≡ c) ⊎ Led st k c
led_split {st} {k} {c} l = go (ℕ_discrete l.by (suc k))
  where
    go : Dec (l.by ≡ suc k) → ((view st).gen (suc k) ≢ 0 × (view st).class (suc k) ≡ c) ⊎ Led st k c
    go (yes e) = inl (rw e at l.live, rw e at l.same)
    go (no e) = inr (record { by = l.by; low = l.low; high = omega (arith, l.high); live = l.live; same = l.same })

module _ (st : State) (S : Working (view st)) where
  abbrev v : View
  v = view st

  -- the lowest slot of a ring is led by no lower one
  pub not_led : (k c : ℕ) → (view st).gen (suc k) ≢ 0 → All (λ y. suc k ≤ y) (ring st (suc k)) → (view st).class (suc k) ≡ c → Led st k c → ⊥
  not_led k c h a e l = omega (arith, all-at (λ y. suc k ≤ y) l.by (ring st (suc k)) a ((round st S (suc k) h).whole l.by (record { live = l.live; mine = l.same ∙ sym e })), l.high)

  -- and another is led by a lower one
  pub is_led : (k z : ℕ) → (view st).gen (suc k) ≢ 0 → In z (ring st (suc k)) → z < suc k → Led st k ((view st).class (suc k))
  is_led k z h m l =
      let f : Mine st (suc k) z = all-at (Mine st (suc k)) z (ring st (suc k)) (round st S (suc k) h).frames m in
      record { by = z; low = (live_in S.elems z f.live).0; high = omega arith; live = f.live; same = f.mine }

  skipped : (k : ℕ) (xs cs : List ℕ) → Scanned st k xs cs → (v.gen (suc k) ≢ 0 → Led st k (v.class (suc k))) → Scanned st (suc k) xs cs
  skipped k xs cs R f = record {
    live = R.live;
    once = R.once;
    led = all_map (λ s l. led_more l) xs R.led;
    whole = λ c l s h e. R.whole c (less c l) s h e;
    c_live = R.c_live;
    c_once = R.c_once;
    c_led = all_map (λ s l. led_more l) cs R.c_led;
    c_whole = λ c l. R.c_whole c (less c l);
  }
    where
      less : (c : ℕ) → Led st (suc k) c → Led st k c
      less c l = go (led_split l)
        where
          go : (v.gen (suc k) ≢ 0 × v.class (suc k) ≡ c) ⊎ Led st k c → Led st k c
          go (inl p) = rw (← p.1) (f p.0)
          go (inr q) = q

  taken_in : (k : ℕ) (xs cs : List ℕ) → Scanned st k xs cs → (h : v.gen (suc k) ≢ 0) → All (λ y. suc k ≤ y) (ring st (suc k))
      → Scanned st (suc k) (xs ++ ring st (suc k)) (cs ++ v.class (suc k) ∷ [])
  taken_in k xs cs R h a =
      let x = suc k in
      let r = ring st x in
      let O = round st S x h in
      let mine : Led st (suc k) (v.class x) = record { by = x; low = omega arith; high = omega arith; live = h; same = refl } in
      record {
        live = all_append (λ s. v.gen s ≢ 0) xs r R.live (all_map (λ s f. f.live) r O.frames);
        once = nodup_append xs r R.once O.once (all_map (λ s l. out-by (Mine st x) s r (λ f. not_led k (v.class s) h a (sym f.mine) l) O.frames) xs R.led);
        led = all_append (λ s. Led st (suc k) (v.class s)) xs r (all_map (λ s l. led_more l) xs R.led) (all_map (λ s f. rw f.mine mine) r O.frames);
        whole = λ c l s g e. whole' c s g e (led_split l);
        c_live = all_append (λ c. v.count c ≢ 0) cs (v.class x ∷ []) R.c_live (S.class-live x h, tt);
        c_once = nodup_append cs (v.class x ∷ []) R.c_once (tt, tt) (all_map (λ c l. ((λ e. not_led k c h a (sym e) l), tt)) cs R.c_led);
        c_led = all_append (Led st (suc k)) cs (v.class x ∷ []) (all_map (λ s l. led_more l) cs R.c_led) (mine, tt);
        c_whole = λ c l. c_whole' c (led_split l);
      }
    where
      whole' : (c s : ℕ) → v.gen s ≢ 0 → v.class s ≡ c → (v.gen (suc k) ≢ 0 × v.class (suc k) ≡ c) ⊎ Led st k c → In s (xs ++ ring st (suc k))
      whole' c s g e (inl p) = in_right s xs (ring st (suc k)) ((round st S (suc k) h).whole s (record { live = g; mine = e ∙ sym p.1 }))
      whole' c s g e (inr l) = in_left s xs (ring st (suc k)) (R.whole c l s g e)

      c_whole' : (c : ℕ) → (v.gen (suc k) ≢ 0 × v.class (suc k) ≡ c) ⊎ Led st k c → In c (cs ++ v.class (suc k) ∷ [])
      c_whole' c (inl p) = in_right c cs (v.class (suc k) ∷ []) (inl (sym p.1))
      c_whole' c (inr l) = in_left c cs (v.class (suc k) ∷ []) (R.c_whole c l)

  -- the frames and classes of one slot more
  pub frames_more : (k : ℕ) (b : Bool) → is_lowest st (suc k) ≡ b → frames_to st (suc k) ≡ frames_to st k ++ (if b then ring st (suc k) else [])
  frames_more k b e = ap (λ (xs : List ℕ). flat (map (ring st) xs)) (lowest_more st k b e) ∙ rw (map-append, flat_append) (ap (λ (l : List ℕ). frames_to st k ++ l) (go b))
    where
      go : (b : Bool) → flat (map (ring st) (if b then suc k ∷ [] else [])) ≡ (if b then ring st (suc k) else [])
      go true = append-nil (ring st (suc k))
      go false = refl

  pub classes_more : (k : ℕ) (b : Bool) → is_lowest st (suc k) ≡ b → classes_to st (suc k) ≡ classes_to st k ++ (if b then (view st).class (suc k) ∷ [] else [])
  classes_more k b e = ap (map (class_of st.elems)) (lowest_more st k b e) ∙ rw map-append (ap (λ (l : List ℕ). classes_to st k ++ l) (go b))
    where
      go : (b : Bool) → map (class_of st.elems) (if b then suc k ∷ [] else []) ≡ (if b then (view st).class (suc k) ∷ [] else [])
      go true = refl
      go false = refl

  pub scanned : (k : ℕ) → Scanned st k (frames_to st k) (classes_to st k)
  scanned zero = record { live = tt; once = tt; led = tt; whole = λ c l s h e. absurd (omega (arith, l.low, l.high)); c_live = tt; c_once = tt; c_led = tt; c_whole = λ c l. absurd (omega (arith, l.low, l.high)) }
  scanned (suc k) = rw (frames_more k (is_lowest st (suc k)) refl, classes_more k (is_lowest st (suc k)) refl) (go (is_lowest st (suc k)) (looked st S (suc k)) (scanned k))
    where
      go : (b : Bool) → Looked st (suc k) b → Scanned st k (frames_to st k) (classes_to st k)
          → Scanned st (suc k) (frames_to st k ++ (if b then ring st (suc k) else [])) (classes_to st k ++ (if b then v.class (suc k) ∷ [] else []))
      go b (free e) R = rw (append-nil, append-nil) (skipped k _ _ R (λ h. absurd (h e)))
      go b (later h z m l) R = rw (append-nil, append-nil) (skipped k _ _ R (λ h. is_led k z h m l))
      go b (first h a) R = taken_in k _ _ R h a

  all_led : (s : ℕ) → v.gen s ≢ 0 → Led st st.head.elems.extent (v.class s)
  all_led s h = let l = live_in S.elems s h in record { by = s; low = l.0; high = l.1; live = h; same = refl }

  -- THE ORDER lists the frames
  pub frames_listed : Listed (view st).gen (canonical_frames st)
  frames_listed =
      let R = scanned st.head.elems.extent in
      rw (frames-to st) (record { once = R.once; live = R.live; whole = λ s h. R.whole (v.class s) (all_led s h) s h refl })

  -- and its classes list the headers
  pub classes_listed : Listed (view st).count (canonical_classes st)
  classes_listed =
      let R = scanned st.head.elems.extent in
      rw (classes-to st) (record {
        once = R.c_once;
        live = R.c_live;
        whole = λ c h. let x = S.ring c h in subst (λ (d : ℕ). In d (classes_to st st.head.elems.extent)) x.1.frames.0.mine (R.c_whole (v.class x.0) (all_led x.0 x.1.frames.0.live));
      })
