-- One table's slots: which are live, the free chain, the extent; taking and freeing a slot. For both tables alike:
-- `g` is the column that is 0 where a slot is free, `n` the column that holds the next free slot.
use Rattle.std.specs.Prelude.{if◌then◌else◌, ◌==◌}
use mathlib.Core.Path.{◌≡◌, refl, sym, ap, ◌∙◌, subst}
use mathlib.Core.Logic.{◌≢◌, ◌⊎◌, inl, inr}
use mathlib.Core.List.{List, [], ◌∷◌}
use mathlib.Core.Bool.{Bool, true, false}
use Prim.Native.Nat.{ℕ, zero, suc, ◌+◌, ◌-◌, ◌≤◌, ◌<◌}
use native.Mathlib.Omega.{arith}
use native.Mathlib.Numerals.{add-one}
use native.Mathlib.Decide.{ℕ_discrete, dec_lt}
use lib.Dec.{T, eqb, eqb→eq, eqb_refl}
use Rattle.rules.specs.declared.Pool.{Pool}
use Rattle.rules.specs.Tables.{Side, field_of}
use Rattle.rules.specs.Slots.{slot_of, taken, freed}
use Rattle.rules.proofs.Laws.Columns.{upd, upd_same, upd_other}
use Rattle.rules.proofs.Laws.Lists.{All, In, Out, NoDup, Walk, all_map, all-at, all_of, out-by, walk-frame}

-- 1 at a live slot, 0 at a free one
abbrev pub sign : ℕ → ℕ
sign zero = 0
sign (suc k) = 1

-- the number of live slots from 1 to `k`
abbrev pub lives : (ℕ → ℕ) → ℕ → ℕ
lives g zero = 0
lives g (suc k) = lives g k + sign (g (suc k))

-- a free slot within the extent
pub record Free (g : ℕ → ℕ) (extent s : ℕ) : Type 0 where
  pub low : 0 < s
  pub within : s ≤ extent
  pub free : g s ≡ 0

pub record Chain (g n : ℕ → ℕ) (root extent : ℕ) : Type 0 where
  pub slots : List ℕ
  pub walk : Walk n root 0 slots
  pub once : NoDup slots
  pub free : All (Free g extent) slots

pub record Pooled (p : Pool) (g n : ℕ → ℕ) : Type 0 where
  pub fits : p.extent ≤ p.capacity
  pub number : lives g p.extent ≡ p.live
  pub chain : Chain g n p.root p.extent
  pub whole : (s : ℕ) → Free g p.extent s → In s chain.slots
  pub none : g 0 ≡ 0
  pub past : (s : ℕ) → p.extent < s → (g s ≡ 0) × (n s ≡ 0)

-- there is room: no refusal 5 or 6
abbrev pub Room : Pool → Type 0
Room p = p.root ≡ 0 → p.extent < p.capacity

-- ---- counting

pub sign_one : (v : ℕ) → v ≢ 0 → sign v ≡ 1
sign_one zero h = absurd (h refl)
sign_one (suc v) h = refl

lives-out : (g : ℕ → ℕ) (a v k : ℕ) → k < a → lives (upd g a v) k ≡ lives g k
lives-out g a v zero h = refl
lives-out g a v (suc k) h = rw (lives-out g a v k (omega arith), upd_other g a v (suc k) (omega arith))

pub lives_in : (g : ℕ → ℕ) (a v k : ℕ) → 0 < a → a ≤ k → lives (upd g a v) k + sign (g a) ≡ lives g k + sign v
lives_in g a v zero h l = absurd (omega arith)
lives_in g a v (suc k) h l = go (λ m. lives_in g a v k h m) (ℕ_discrete a (suc k))
  where
    go : (a ≤ k → lives (upd g a v) k + sign (g a) ≡ lives g k + sign v) → Dec (a ≡ suc k) → lives (upd g a v) (suc k) + sign (g a) ≡ lives g (suc k) + sign v
    go below (yes e) = omega (arith, lives-out g a v k (omega (arith, e)), ap sign (subst (λ (b : ℕ). upd g a v b ≡ v) e (upd_same g a v)), ap (λ (b : ℕ). sign (g b)) e)
    go below (no e) = rw (upd_other g a v (suc k) (omega arith)) (omega (arith, below (omega arith)))

lives_more : (g : ℕ → ℕ) (a v k : ℕ) → 0 < a → a ≤ k → g a ≡ 0 → v ≢ 0 → lives (upd g a v) k ≡ lives g k + 1
lives_more g a v k h l e n = omega (arith, lives_in g a v k h l, ap sign e, sign_one v n)

pub lives_less : (g : ℕ → ℕ) (a k : ℕ) → 0 < a → a ≤ k → g a ≢ 0 → lives (upd g a 0) k ≡ lives g k - 1
lives_less g a k h l n = omega (arith, lives_in g a 0 k h l, sign_one (g a) n)

lives-same : (g : ℕ → ℕ) (a v k : ℕ) → 0 < a → a ≤ k → g a ≢ 0 → v ≢ 0 → lives (upd g a v) k ≡ lives g k
lives-same g a v k h l n m = omega (arith, lives_in g a v k h l, sign_one (g a) n, sign_one v m)

-- and past the slots that were counted
pub lives-free : (g : ℕ → ℕ) (k : ℕ) → g (k + 1) ≡ 0 → lives g (k + 1) ≡ lives g k
lives-free g k e = rw add-one (omega (arith, ap sign (rw add-one at e)))

pub lives-live : (g : ℕ → ℕ) (k : ℕ) → g (k + 1) ≢ 0 → lives g (k + 1) ≡ lives g k + 1
lives-live g k e = rw (add-one k) (omega (arith, sign_one (g (suc k)) (rw add-one at e)))

-- ---- which slot is taken

pub eqb-false : (m n : ℕ) → m ≢ n → eqb m n ≡ false
eqb-false m n h = go (eqb m n) (eqb→eq m n)
  where
    go : (b : Bool) → (T b → m ≡ n) → b ≡ false
    go true f = absurd (h (f tt))
    go false f = refl

pub eqb-true : (m n : ℕ) → m ≡ n → eqb m n ≡ true
eqb-true m n e = rw e (go (eqb n n) (eqb_refl n))
  where
    go : (b : Bool) → T b → b ≡ true
    go true t = refl
    go false t = absurd t

pub if_eq : {A : Type 0} (m n : ℕ) (a b : A) → m ≡ n → (if m == n then a else b) ≡ a
if_eq m n a b e = rw (eqb-true m n e)

pub if_ne : {A : Type 0} (m n : ℕ) (a b : A) → m ≢ n → (if m == n then a else b) ≡ b
if_ne m n a b e = rw (eqb-false m n e)

-- a chain that is not empty: its root, and the rest
pub record Popped (g n : ℕ → ℕ) (r extent : ℕ) : Type 0 where
  pub here : Free g extent r
  pub rest : Chain g n (n r) extent
  pub apart : Out r rest.slots
  pub whole : (s : ℕ) → Free g extent s → s ≢ r → In s rest.slots

pop : {g n : ℕ → ℕ} {r extent : ℕ} → r ≢ 0 → (c : Chain g n r extent) → ((s : ℕ) → Free g extent s → In s c.slots) → Popped g n r extent
pop {g} {n} {r} {extent} h c = go c.slots c.walk c.once c.free
  where
    others : (s x : ℕ) (xs : List ℕ) → r ≡ x → s ≢ r → In s (x ∷ xs) → In s xs
    others s x xs e d (inl q) = absurd (d (q ∙ sym e))
    others s x xs e d (inr m) = m

    go : (xs : List ℕ) → Walk n r 0 xs → NoDup xs → All (Free g extent) xs → ((s : ℕ) → Free g extent s → In s xs) → Popped g n r extent
    go [] w o f a = absurd (h w)
    go (x ∷ xs) w o f a =
        let e : r ≡ x = w.0 in
        record { here = rw e f.0; rest = record { slots = xs; walk = rw e w.1; once = o.1; free = f.1 }; apart = rw e o.0; whole = λ s p d. others s x xs e d (a s p) }

-- a chain from 0 is empty
chain-none : {g n : ℕ → ℕ} {r extent : ℕ} → r ≡ 0 → (c : Chain g n r extent) → (s : ℕ) → In s c.slots → ⊥
chain-none {g} {n} {r} {extent} e c s = go c.slots c.walk c.free
  where
    go : (xs : List ℕ) → Walk n r 0 xs → All (Free g extent) xs → In s xs → ⊥
    go [] w f m = elim m [ ]
    go (x ∷ xs) w f m = omega (arith, e, w.0, f.0.low)

-- what is free after one slot has changed: the slot itself, or what was free before
free_else : (g : ℕ → ℕ) (a v : ℕ) {extent s : ℕ} → Free (upd g a v) extent s → s ≢ a → Free g extent s
free_else g a v {extent} {s} f d = record { low = f.low; within = f.within; free = sym (upd_other g a v s d) ∙ f.free }

free-not : (g : ℕ → ℕ) (a v : ℕ) {extent s : ℕ} → v ≢ 0 → Free (upd g a v) extent s → s ≢ a
free-not g a v {extent} {s} h f e = h (sym (upd_same g a v) ∙ ap (upd g a v) (sym e) ∙ f.free)

-- a chain, where the columns change at no slot of it
chain-frame : {g n g' n' : ℕ → ℕ} {r extent : ℕ} (c : Chain g n r extent)
    → All (λ s. (g' s ≡ g s) × (n' s ≡ n s)) c.slots → Chain g' n' r extent
chain-frame {g} {n} {g'} {n'} {r} {extent} c h = record {
  slots = c.slots;
  walk = walk-frame n n' r 0 c.slots (all_map (λ s p. p.1) c.slots h) c.walk;
  once = c.once;
  free = all_of (Free g' extent) c.slots (λ s m.
      let f = all-at (Free g extent) s c.slots c.free m in
      let e = all-at (λ s. (g' s ≡ g s) × (n' s ≡ n s)) s c.slots h m in
      record { low = f.low; within = f.within; free = e.0 ∙ f.free });
}

-- the slot, and the pool then
pub record Taken (p : Pool) (g n : ℕ → ℕ) (i : ℕ) (q : Pool) : Type 0 where
  pub low : 0 < i
  pub fits : i ≤ p.capacity
  pub unused : g i ≡ 0
  pub still : q.capacity ≡ p.capacity
  pub after : (v : ℕ) (m : ℕ → ℕ) → v ≢ 0 → ((s : ℕ) → g s ≡ 0 → s ≢ i → m s ≡ n s) → Pooled q (upd g i v) m

-- said once, for a grown extent and for a popped root
module _ {p : Pool} {g n : ℕ → ℕ} where
  grown : Pooled p g n → Room p → p.root ≡ 0 → Taken p g n (p.extent + 1) (record { capacity = p.capacity; extent = p.extent + 1; root = 0; live = p.live + 1 })
  grown P room e = record {
    low = omega arith;
    fits = omega (arith, room e);
    unused = (P.past (p.extent + 1) (omega arith)).0;
    still = refl;
    after = λ v m h k. record {
      fits = omega (arith, room e);
      number = omega (arith, lives_more g (p.extent + 1) v (p.extent + 1) (omega arith) (omega arith) (P.past (p.extent + 1) (omega arith)).0 h, lives-free g p.extent (P.past (p.extent + 1) (omega arith)).0, P.number);
      chain = record { slots = []; walk = refl; once = tt; free = tt };
      whole = λ s f.
          let d = free-not g (p.extent + 1) v h f in
          let b = free_else g (p.extent + 1) v f d in
          chain-none e P.chain s (P.whole s (record { low = b.low; within = omega (arith, b.within, d); free = b.free }));
      none = upd_other g (p.extent + 1) v 0 (omega arith) ∙ P.none;
      past = λ s l. let o = P.past s (omega arith) in (upd_other g (p.extent + 1) v s (omega arith) ∙ o.0, k s o.0 (omega arith) ∙ o.1);
    };
  }

  pub popped : Pooled p g n → p.root ≢ 0 → Taken p g n p.root (record { capacity = p.capacity; extent = p.extent; root = n p.root; live = p.live + 1 })
  unfolding chain-frame
  popped P e =
      let c = pop e P.chain P.whole in
      let r = p.root in
      let xs = c.rest.slots in
      record {
        low = c.here.low;
        fits = omega (arith, P.fits, c.here.within);
        unused = c.here.free;
        still = refl;
        after = λ v m h k. record {
          fits = P.fits;
          number = omega (arith, lives_more g r v p.extent c.here.low c.here.within c.here.free h, P.number);
          chain = chain-frame c.rest (all_of (λ s. (upd g r v s ≡ g s) × (m s ≡ n s)) xs (λ s j.
              let d : s ≢ r = λ q. all-at (λ y. r ≢ y) s xs c.apart j (sym q) in
              let f = all-at (Free g p.extent) s xs c.rest.free j in
              (upd_other g r v s d, k s f.free d)));
          whole = λ s f. let d = free-not g r v h f in c.whole s (free_else g r v f d) d;
          none = upd_other g r v 0 (omega arith) ∙ P.none;
          past = λ s l. let o = P.past s l in let d : s ≢ r = omega (arith, c.here.within) in (upd_other g r v s d ∙ o.0, k s o.0 d ∙ o.1);
        };
      }

  -- a live slot is within the extent
  pub live_in : Pooled p g n → (a : ℕ) → g a ≢ 0 → (0 < a) × (a ≤ p.extent)
  live_in P a h = (go_low a h, go (dec_lt p.extent a))
    where
      go_low : (a : ℕ) → g a ≢ 0 → 0 < a
      go_low zero h = absurd (h P.none)
      go_low (suc a) h = omega arith

      go : Dec (p.extent < a) → a ≤ p.extent
      go (yes l) = absurd (h (P.past a l).0)
      go (no l) = omega arith

  -- FREEING
  pub free : Pooled p g n → (a : ℕ) → g a ≢ 0 → (m : ℕ → ℕ) → m a ≡ p.root → ((s : ℕ) → g s ≡ 0 → m s ≡ n s) → Pooled (freed p a) (upd g a 0) m
  unfolding freed chain-frame
  free P a h m e k =
      let c = P.chain in
      let xs = c.slots in
      let l = live_in P a h in
      let out : Out a xs = out-by (Free g p.extent) a xs (λ f. h f.free) c.free in
      let c' : Chain (upd g a 0) m p.root p.extent = chain-frame c (all_of (λ s. (upd g a 0 s ≡ g s) × (m s ≡ n s)) xs (λ s j.
      let f = all-at (Free g p.extent) s xs c.free j in
      (upd_other g a 0 s (λ q. h (rw q at f.free)), k s f.free))) in
      record {
        fits = P.fits;
        number = omega (arith, lives_less g a p.extent l.0 l.1 h, P.number);
        chain = record { slots = a ∷ xs; walk = (refl, rw e c'.walk); once = (out, c.once); free = (record { low = l.0; within = l.1; free = upd_same g a 0 }, c'.free) };
        whole = λ s f. whole s f (ℕ_discrete s a);
        none = upd_other g a 0 0 (omega (arith, l.0)) ∙ P.none;
        past = λ s q. let o = P.past s q in (upd_other g a 0 s (omega (arith, l.1)) ∙ o.0, k s o.0 ∙ o.1);
      }
    where
      whole : (s : ℕ) → Free (upd g a 0) p.extent s → Dec (s ≡ a) → (s ≡ a) ⊎ In s P.chain.slots
      whole s f (yes q) = inl q
      whole s f (no q) = inr (P.whole s (free_else g a 0 f q))

  -- a live slot stays live, and the free slots' links stay
  pub keep : Pooled p g n → (a v : ℕ) → g a ≢ 0 → v ≢ 0 → (m : ℕ → ℕ) → ((s : ℕ) → g s ≡ 0 → m s ≡ n s) → Pooled p (upd g a v) m
  unfolding chain-frame
  keep P a v h u m k =
      let c = P.chain in
      let xs = c.slots in
      let l = live_in P a h in
      record {
        fits = P.fits;
        number = lives-same g a v p.extent l.0 l.1 h u ∙ P.number;
        chain = chain-frame c (all_of (λ s. (upd g a v s ≡ g s) × (m s ≡ n s)) xs (λ s j.
            let f = all-at (Free g p.extent) s xs c.free j in
            (upd_other g a v s (λ q. h (rw q at f.free)), k s f.free)));
        whole = λ s f. P.whole s (free_else g a v f (free-not g a v u f));
        none = upd_other g a v 0 (omega (arith, l.0)) ∙ P.none;
        past = λ s q. let o = P.past s q in (upd_other g a v s (omega (arith, l.1)) ∙ o.0, k s o.0 ∙ o.1);
      }

  pub relink : Pooled p g n → (m : ℕ → ℕ) → ((s : ℕ) → g s ≡ 0 → m s ≡ n s) → Pooled p g m
  unfolding chain-frame
  relink P m k =
      let c = P.chain in
      record {
        fits = P.fits;
        number = P.number;
        chain = chain-frame c (all_map (λ s f. (refl, k s f.free)) c.slots c.free);
        whole = P.whole;
        none = P.none;
        past = λ s q. let o = P.past s q in (o.0, k s o.0 ∙ o.1);
      }

-- taking a slot, of either table
pub take : (t : Side) {g : ℕ → ℕ} → Pooled t.pool g (field_of t t.link) → Room t.pool → Taken t.pool g (field_of t t.link) (slot_of t.pool) (taken t)
unfolding slot_of taken
take t {g} P room = go (ℕ_discrete t.pool.root 0)
  where
    go : Dec (t.pool.root ≡ 0) → Taken t.pool g (field_of t t.link) (slot_of t.pool) (taken t)
    go (yes e) = rw (eqb-true t.pool.root 0 e) (grown P room e)
    go (no e) = rw (eqb-false t.pool.root 0 e) (popped P e)
