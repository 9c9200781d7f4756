-- Ticket 6: the columns of sizes and totals. A total is the sum of the sizes of the slots of its class; once for every call that puts in, takes out, joins or moves.
use Rattle.std.specs.Prelude.{if◌then◌else◌}
use mathlib.Core.Path.{◌≡◌, refl, sym, ◌∙◌, subst}
use mathlib.Core.Logic.{◌≢◌, inl, inr}
use mathlib.Core.Bool.{Bool, true, false}
use mathlib.Core.List.{List, [], ◌∷◌, map}
use Prim.Native.Nat.{ℕ, suc, ◌+◌, ◌-◌, ◌*◌, ◌≤◌, ◌<◌}
use native.Mathlib.Nat.{mul-le-mul_right}
use native.Mathlib.Omega.{arith}
use native.Mathlib.Decide.{ℕ_discrete}
use lib.ListN.{length}
use Rattle.rules.specs.Notation.{◌≤?◌, sum, up_to}
use Rattle.rules.specs.Tables.{most_slots, most_bytes, total_bound, sized}
use Rattle.rules.specs.Calls.{Is}
use Rattle.rules.proofs.Laws.Tests.{le_is}
use Rattle.rules.proofs.Laws.Lists.{All, In, NoDup, all-at, all_of}
use Rattle.rules.proofs.Laws.Columns.{choose, upd, upd_same, upd_other}
use Rattle.rules.proofs.Laws.Steps.{length-along}
use Rattle.rules.proofs.Laws.Sums.{sum-within, sum_same, up_to-in, up_to-once}

-- ---- sums, member by member
pub sum_ext : {A : Type 0} (f g : A → ℕ) (xs : List A) → All (λ x. f x ≡ g x) xs → sum (map f xs) ≡ sum (map g xs)
sum_ext f g [] h = refl
sum_ext f g (x ∷ xs) h = omega (arith, h.0, sum_ext f g xs h.1)

pub sum_add : {A : Type 0} (f g : A → ℕ) (xs : List A) → sum (map (λ x. f x + g x) xs) ≡ sum (map f xs) + sum (map g xs)
sum_add f g [] = refl
sum_add f g (x ∷ xs) = omega (arith, sum_add f g xs)

pub sum-none : {A : Type 0} (f : A → ℕ) (xs : List A) → All (λ x. f x ≡ 0) xs → sum (map f xs) ≡ 0
sum-none f [] h = refl
sum-none f (x ∷ xs) h = omega (arith, h.0, sum-none f xs h.1)

pub sum-most : {A : Type 0} (f : A → ℕ) (most : ℕ) (xs : List A) → All (λ x. f x ≤ most) xs → sum (map f xs) ≤ length xs * most
sum-most f most [] h = omega arith
sum-most f most (x ∷ xs) h = omega (arith, h.0, sum-most f most xs h.1)

-- `v` at one place
pub sum_one : (i v : ℕ) (xs : List ℕ) → NoDup xs → In i xs → sum (map (upd (λ s. 0) i v) xs) ≡ v
sum_one i v xs d m =
    sum_same (upd (λ s. 0) i v) xs (i ∷ []) d (tt, tt) (λ x k n. here x n (ℕ_discrete x i)) (λ y k n. back y k) ∙ one
  where
    here : (x : ℕ) → upd (λ s. 0) i v x ≢ 0 → Dec (x ≡ i) → In x (i ∷ [])
    here x n (yes e) = inl e
    here x n (no e) = absurd (n (upd_other (λ s. 0) i v x e))

    back : (y : ℕ) → In y (i ∷ []) → In y xs
    back y (inl e) = rw e m
    back y (inr k) = absurd k

    one : sum (map (upd (λ s. 0) i v) (i ∷ [])) ≡ v
    one = omega (arith, upd_same (λ s. 0) i v)

-- ---- what is kept of a size that is given
pub sized-most : (z : ℕ) → sized z ≤ most_bytes
unfolding sized
sized-most z = go (z ≤? most_bytes) (le_is z most_bytes)
  where
    go : (b : Bool) → Is (z ≤ most_bytes) b → (if b then z else most_bytes) ≤ most_bytes
    go true l = l
    go false l = omega arith

pub sized-is : (z : ℕ) → z ≤ most_bytes → sized z ≡ z
unfolding sized
sized-is z h = go (z ≤? most_bytes) (le_is z most_bytes)
  where
    go : (b : Bool) → Is (z ≤ most_bytes) b → (if b then z else most_bytes) ≡ z
    go true l = refl
    go false l = absurd (l h)

-- ---- what a slot adds to a class
unfoldable pub share : (class bytes : ℕ → ℕ) → (c s : ℕ) → ℕ
share cl b c s = choose (ℕ_discrete (cl s) c) (b s) 0

pub share_mine : (cl b : ℕ → ℕ) (c s : ℕ) → cl s ≡ c → share cl b c s ≡ b s
unfolding share
share_mine cl b c s e = go (ℕ_discrete (cl s) c)
  where
    go : (d : Dec (cl s ≡ c)) → choose d (b s) 0 ≡ b s
    go (yes q) = refl
    go (no q) = absurd (q e)

pub share_other : (cl b : ℕ → ℕ) (c s : ℕ) → cl s ≢ c → share cl b c s ≡ 0
unfolding share
share_other cl b c s e = go (ℕ_discrete (cl s) c)
  where
    go : (d : Dec (cl s ≡ c)) → choose d (b s) 0 ≡ 0
    go (yes q) = absurd (e q)
    go (no q) = refl

pub share_none : (cl b : ℕ → ℕ) (c s : ℕ) → b s ≡ 0 → share cl b c s ≡ 0
share_none cl b c s e = go (ℕ_discrete (cl s) c)
  where
    go : Dec (cl s ≡ c) → share cl b c s ≡ 0
    go (yes q) = share_mine cl b c s q ∙ e
    go (no q) = share_other cl b c s q

-- where class and size are the same, so is the share
pub share_same : (cl b cl' b' : ℕ → ℕ) (c s : ℕ) → cl' s ≡ cl s → b' s ≡ b s → share cl' b' c s ≡ share cl b c s
share_same cl b cl' b' c s e f = go (ℕ_discrete (cl s) c)
  where
    go : Dec (cl s ≡ c) → share cl' b' c s ≡ share cl b c s
    go (yes q) = share_mine cl' b' c s (e ∙ q) ∙ f ∙ sym (share_mine cl b c s q)
    go (no q) = share_other cl' b' c s (λ r. q (sym e ∙ r)) ∙ sym (share_other cl b c s q)

-- of all slots 1 to `n`
abbrev pub whole : ℕ → (class bytes : ℕ → ℕ) → (c : ℕ) → ℕ
whole n cl b c = sum (map (share cl b c) (up_to n))

-- THE COLUMNS: every size is a u32, that of a free slot is 0, and a total is its class's whole
pub record Sizes (n : ℕ) (g cl b t : ℕ → ℕ) : Type 0 where
  pub most : (s : ℕ) → b s ≤ most_bytes
  pub free : (s : ℕ) → g s ≡ 0 → b s ≡ 0
  pub total : (c : ℕ) → t c ≡ whole n cl b c

-- the whole of a class is the sum over any list of all its live slots, each once
pub whole-list : (n : ℕ) (g cl b : ℕ → ℕ) (c : ℕ) (xs : List ℕ) → ((s : ℕ) → g s ≡ 0 → b s ≡ 0) → NoDup xs → All (λ s. (cl s ≡ c) × (1 ≤ s) × (s ≤ n)) xs
    → ((s : ℕ) → g s ≢ 0 → cl s ≡ c → In s xs) → whole n cl b c ≡ sum (map b xs)
whole-list n g cl b c xs free d h w =
    sum_same (share cl b c) (up_to n) xs (up_to-once n) d (λ s m k. listed s k (ℕ_discrete (cl s) c) (ℕ_discrete (g s) 0))
    (λ s m k. let r = all-at (λ s. (cl s ≡ c) × (1 ≤ s) × (s ≤ n)) s xs h m in up_to-in n s r.1 r.2)
    ∙ sum_ext (share cl b c) b xs (all_of (λ s. share cl b c s ≡ b s) xs (λ s m. share_mine cl b c s (all-at (λ s. (cl s ≡ c) × (1 ≤ s) × (s ≤ n)) s xs h m).0))
  where
    listed : (s : ℕ) → share cl b c s ≢ 0 → Dec (cl s ≡ c) → Dec (g s ≡ 0) → In s xs
    listed s k (yes e) (yes z) = absurd (k (share_none cl b c s (free s z)))
    listed s k (yes e) (no z) = w s z e
    listed s k (no e) z = absurd (k (share_other cl b c s e))

-- each slot adds the same
pub whole_same : (n : ℕ) (cl cl' b : ℕ → ℕ) (c : ℕ) → ((s : ℕ) → share cl' b c s ≡ share cl b c s) → whole n cl' b c ≡ whole n cl b c
whole_same n cl cl' b c h = sum_ext (share cl' b c) (share cl b c) (up_to n) (all_of (λ s. share cl' b c s ≡ share cl b c s) (up_to n) (λ s m. h s))

-- none has the class
pub whole-none : (n : ℕ) (g cl b : ℕ → ℕ) (c : ℕ) → ((s : ℕ) → g s ≡ 0 → b s ≡ 0) → ((s : ℕ) → g s ≢ 0 → cl s ≢ c) → whole n cl b c ≡ 0
whole-none n g cl b c free h = whole-list n g cl b c [] free tt tt (λ s l e. absurd (h s l e))

-- class and size change at one slot
pub whole-at : (n : ℕ) (cl b cl' b' : ℕ → ℕ) (i c : ℕ) → 1 ≤ i → i ≤ n → ((s : ℕ) → s ≢ i → (cl' s ≡ cl s) × (b' s ≡ b s))
    → whole n cl' b' c + share cl b c i ≡ whole n cl b c + share cl' b' c i
whole-at n cl b cl' b' i c lo hi off =
    let xs = up_to n in
    let f = share cl b c in
    let f' = share cl' b' c in
    let out = upd (λ s. 0) i (f i) in
    let into = upd (λ s. 0) i (f' i) in
    omega (
      arith,
      sum_add f' out xs,
      sum_add f into xs,
      sum_one i (f i) xs (up_to-once n) (up_to-in n i lo hi),
      sum_one i (f' i) xs (up_to-once n) (up_to-in n i lo hi),
      sum_ext (λ s. f' s + out s) (λ s. f s + into s) xs (all_of (λ s. f' s + out s ≡ f s + into s) xs (λ s m. each s (ℕ_discrete s i))),
    )
  where
    each : (s : ℕ) → Dec (s ≡ i) → share cl' b' c s + upd (λ s. 0) i (share cl b c i) s ≡ share cl b c s + upd (λ s. 0) i (share cl' b' c i) s
    each s (yes e) = rw (e, upd_same (λ s. 0) i (share cl b c i), upd_same (λ s. 0) i (share cl' b' c i)) (omega arith)
    each s (no e) = let o = off s e in omega (arith, upd_other (λ s. 0) i (share cl b c i) s e, upd_other (λ s. 0) i (share cl' b' c i) s e, share_same cl b cl' b' c s o.0 o.1)

-- what freeing all of the class `c` does to a slot: it was of the class and is blank, or it is as it was
pub data Dropped (c : ℕ) (g cl b g' cl' b' : ℕ → ℕ) (s : ℕ) : Type 0 where
  gone : cl s ≡ c → b' s ≡ 0 → Dropped c g cl b g' cl' b' s
  stays : g' s ≡ g s → cl' s ≡ cl s → b' s ≡ b s → (g s ≢ 0 → cl s ≢ c) → Dropped c g cl b g' cl' b' s

module _ {n : ℕ} {g cl b t : ℕ → ℕ} (Z : Sizes n g cl b t) where
  -- Rules 4 and 5: a frame is put in at `i`
  pub sizes-put : (i h c z : ℕ) → 1 ≤ i → i ≤ n → g i ≡ 0 → h ≢ 0 → z ≤ most_bytes → Sizes n (upd g i h) (upd cl i c) (upd b i z) (upd t c (t c + z))
  sizes-put i h c z lo hi free live small = record { most = λ s. most s (ℕ_discrete s i); free = λ s. none s (ℕ_discrete s i); total = λ d. total d (ℕ_discrete d c) }
    where
      most : (s : ℕ) → Dec (s ≡ i) → upd b i z s ≤ most_bytes
      most s (yes e) = rw (e, upd_same) small
      most s (no e) = rw upd_other (Z.most s)

      none : (s : ℕ) → Dec (s ≡ i) → upd g i h s ≡ 0 → upd b i z s ≡ 0
      none s (yes e) q = absurd (live (sym (upd_same g i h) ∙ rw e at q))
      none s (no e) q = rw upd_other (Z.free s (rw upd_other at q))

      at : (d : ℕ) → whole n (upd cl i c) (upd b i z) d + share cl b d i ≡ whole n cl b d + share (upd cl i c) (upd b i z) d i
      at d = whole-at n cl b (upd cl i c) (upd b i z) i d lo hi (λ s e. (upd_other cl i c s e, upd_other b i z s e))

      total : (d : ℕ) → Dec (d ≡ c) → upd t c (t c + z) d ≡ whole n (upd cl i c) (upd b i z) d
      total d (yes e) = rw (e, upd_same t c (t c + z)) (omega (arith, at c, share_none cl b c i (Z.free i free), share_mine (upd cl i c) (upd b i z) c i (upd_same cl i c), upd_same b i z, Z.total c))
      total d (no e) = rw (upd_other t c (t c + z) d e) (omega (arith, at d, share_none cl b d i (Z.free i free), share_other (upd cl i c) (upd b i z) d i (λ q. e (sym q ∙ upd_same cl i c)), Z.total d))

  -- Rules 7: the frame `x` is taken out
  pub sizes-take : (x : ℕ) → 1 ≤ x → x ≤ n → Sizes n (upd g x 0) (upd cl x 0) (upd b x 0) (upd t (cl x) (t (cl x) - b x))
  sizes-take x lo hi = record { most = λ s. most s (ℕ_discrete s x); free = λ s. none s (ℕ_discrete s x); total = λ d. total d (ℕ_discrete d (cl x)) }
    where
      most : (s : ℕ) → Dec (s ≡ x) → upd b x 0 s ≤ most_bytes
      most s (yes e) = rw (e, upd_same) (omega arith)
      most s (no e) = rw upd_other (Z.most s)

      none : (s : ℕ) → Dec (s ≡ x) → upd g x 0 s ≡ 0 → upd b x 0 s ≡ 0
      none s (yes e) q = rw (e, upd_same)
      none s (no e) q = rw upd_other (Z.free s (rw upd_other at q))

      at : (d : ℕ) → whole n (upd cl x 0) (upd b x 0) d + share cl b d x ≡ whole n cl b d + share (upd cl x 0) (upd b x 0) d x
      at d = whole-at n cl b (upd cl x 0) (upd b x 0) x d lo hi (λ s e. (upd_other cl x 0 s e, upd_other b x 0 s e))

      gone : (d : ℕ) → share (upd cl x 0) (upd b x 0) d x ≡ 0
      gone d = share_none (upd cl x 0) (upd b x 0) d x (upd_same b x 0)

      total : (d : ℕ) → Dec (d ≡ cl x) → upd t (cl x) (t (cl x) - b x) d ≡ whole n (upd cl x 0) (upd b x 0) d
      total d (yes e) = rw (e, upd_same t (cl x) (t (cl x) - b x)) (omega (arith, at (cl x), gone (cl x), share_mine cl b (cl x) x refl, Z.total (cl x)))
      total d (no e) = rw (upd_other t (cl x) (t (cl x) - b x) d e) (omega (arith, at d, gone d, share_other cl b d x (λ q. e (sym q)), Z.total d))

  -- Rules 6: the class `k` goes into `c`
  pub sizes-join : (c k : ℕ) → c ≢ k → (cl' : ℕ → ℕ) → ((s : ℕ) → cl s ≡ k → cl' s ≡ c) → ((s : ℕ) → cl s ≢ k → cl' s ≡ cl s) → Sizes n g cl' b (upd (upd t c (t c + t k)) k 0)
  sizes-join c k apart cl' into same = record { most = Z.most; free = Z.free; total = λ d. total d (ℕ_discrete d k) (ℕ_discrete d c) }
    where
      xs : List ℕ
      xs = up_to n

      both : (s : ℕ) → Dec (cl s ≡ k) → share cl' b c s ≡ share cl b c s + share cl b k s
      both s (yes e) = omega (arith, share_mine cl' b c s (into s e), share_mine cl b k s e, share_other cl b c s (λ q. apart (sym q ∙ e)))
      both s (no e) = omega (arith, share_same cl b cl' b c s (same s e) refl, share_other cl b k s e)

      left : (s : ℕ) → Dec (cl s ≡ k) → share cl' b k s ≡ 0
      left s (yes e) = share_other cl' b k s (λ q. apart (sym (into s e) ∙ q))
      left s (no e) = share_other cl' b k s (λ q. e (sym (same s e) ∙ q))

      third : (d s : ℕ) → d ≢ k → d ≢ c → Dec (cl s ≡ k) → share cl' b d s ≡ share cl b d s
      third d s o p (yes e) = share_other cl' b d s (λ q. p (sym q ∙ into s e)) ∙ sym (share_other cl b d s (λ q. o (sym q ∙ e)))
      third d s o p (no e) = share_same cl b cl' b d s (same s e) refl

      total : (d : ℕ) → Dec (d ≡ k) → Dec (d ≡ c) → upd (upd t c (t c + t k)) k 0 d ≡ whole n cl' b d
      total d (yes e) _ = rw (e, upd_same (upd t c (t c + t k)) k 0) (sym (sum-none (share cl' b k) xs (all_of (λ s. share cl' b k s ≡ 0) xs (λ s m. left s (ℕ_discrete (cl s) k)))))
      total d (no e) (yes f) =
          rw (upd_other (upd t c (t c + t k)) k 0 d e, f, upd_same t c (t c + t k))
          (omega (arith, Z.total c, Z.total k, sum_add (share cl b c) (share cl b k) xs, sum_ext (share cl' b c) (λ s. share cl b c s + share cl b k s) xs (all_of (λ s. share cl' b c s ≡ share cl b c s + share cl b k s) xs (λ s m. both s (ℕ_discrete (cl s) k)))))
      total d (no e) (no f) =
          rw (upd_other (upd t c (t c + t k)) k 0 d e, upd_other t c (t c + t k) d f)
          (Z.total d ∙ sym (sum_ext (share cl' b d) (share cl b d) xs (all_of (λ s. share cl' b d s ≡ share cl b d s) xs (λ s m. third d s e f (ℕ_discrete (cl s) k)))))

  -- Rules 8: every slot of the class `c` is freed, and the others stay
  pub sizes-drop : (c : ℕ) (g' cl' b' : ℕ → ℕ) → ((s : ℕ) → Dropped c g cl b g' cl' b' s) → Sizes n g' cl' b' (upd t c 0)
  sizes-drop c g' cl' b' h = record { most = λ s. most s (h s); free = λ s. none s (h s); total = λ d. total d (ℕ_discrete d c) }
    where
      xs : List ℕ
      xs = up_to n

      most : (s : ℕ) → Dropped c g cl b g' cl' b' s → b' s ≤ most_bytes
      most s (gone e f) = omega (arith, f)
      most s (stays e f k o) = rw k (Z.most s)

      none : (s : ℕ) → Dropped c g cl b g' cl' b' s → g' s ≡ 0 → b' s ≡ 0
      none s (gone e f) q = f
      none s (stays e f k o) q = k ∙ Z.free s (sym e ∙ q)

      mine : (s : ℕ) → Dropped c g cl b g' cl' b' s → Dec (g s ≡ 0) → share cl' b' c s ≡ 0
      mine s (gone e f) q = share_none cl' b' c s f
      mine s (stays e f k o) (yes z) = share_none cl' b' c s (k ∙ Z.free s z)
      mine s (stays e f k o) (no z) = share_other cl' b' c s (λ q. o z (sym f ∙ q))

      other : (d s : ℕ) → d ≢ c → Dropped c g cl b g' cl' b' s → share cl' b' d s ≡ share cl b d s
      other d s n (gone e f) = share_none cl' b' d s f ∙ sym (share_other cl b d s (λ q. n (sym q ∙ e)))
      other d s n (stays e f k o) = share_same cl b cl' b' d s f k

      total : (d : ℕ) → Dec (d ≡ c) → upd t c 0 d ≡ whole n cl' b' d
      total d (yes e) = rw (e, upd_same t c 0) (sym (sum-none (share cl' b' c) xs (all_of (λ s. share cl' b' c s ≡ 0) xs (λ s m. mine s (h s) (ℕ_discrete (g s) 0)))))
      total d (no e) = rw (upd_other t c 0 d e) (Z.total d ∙ sym (sum_ext (share cl' b' d) (share cl b d) xs (all_of (λ s. share cl' b' d s ≡ share cl b d s) xs (λ s m. other d s e (h s)))))

  -- a frame's size is part of its run's total
  pub sizes_part : (x : ℕ) → 1 ≤ x → x ≤ n → b x ≤ t (cl x)
  sizes_part x lo hi =
      let m = sum-within (share cl b (cl x)) (x ∷ []) (up_to n) (tt, tt) (λ y i k. in_table y i) in
      omega (arith, m, share_mine cl b (cl x) x refl, Z.total (cl x))
    where
      in_table : (y : ℕ) → In y (x ∷ []) → In y (up_to n)
      in_table y (inl e) = rw e (up_to-in n x lo hi)
      in_table y (inr i) = absurd i

  -- THE LAW: a total stays below 2 to the 48, where the slots are 65,536 at most
  pub total-most : (c : ℕ) → t c ≤ n * most_bytes
  total-most c =
      let m = sum-most (share cl b c) most_bytes (up_to n) (all_of (λ s. share cl b c s ≤ most_bytes) (up_to n) (λ s m. small s (ℕ_discrete (cl s) c))) in
      rw (Z.total c) (subst (λ (k : ℕ). whole n cl b c ≤ k * most_bytes) (length-along suc n 1) m)
    where
      small : (s : ℕ) → Dec (cl s ≡ c) → share cl b c s ≤ most_bytes
      small s (yes e) = rw (share_mine cl b c s e) (Z.most s)
      small s (no e) = rw (share_other cl b c s e) (omega arith)

  pub total-below : n ≤ most_slots → (c : ℕ) → t c < total_bound
  total-below few c = omega (arith, total-most c, mul-le-mul_right most_bytes few)
