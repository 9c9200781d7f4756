-- What each step does to the links, over any columns: only what is true of them at each slot is asked.
use mathlib.Core.Path.{◌≡◌, sym, ap, ◌∙◌, subst₂}
use mathlib.Core.Logic.{◌≢◌, ◌⊎◌, inl, inr}
use Prim.Native.Nat.{ℕ, suc, ◌+◌, ◌-◌}
use native.Mathlib.Omega.{arith}
use native.Mathlib.Decide.{ℕ_discrete}
use mathlib.Core.List.{List, [], ◌∷◌, ◌++◌}
use lib.ListN.{length, length-append}
use Rattle.rules.proofs.Laws.Lists.{All, In, Out, NoDup, Walk, all_map, all-at, all_of, all_append, in_left, in_right, nodup_append, walk-frame, walk-join, walk-map}
use Rattle.rules.proofs.Laws.Columns.{upd, upd_same, upd_other, skip, skip-here, skip-past}
use Rattle.rules.proofs.Laws.Working.{Links, Frame, Ring}

-- `s` is `a`, or `b`, or neither
pub data Which (s a b : ℕ) : Type 0 where
  one : s ≡ a → Which s a b
  two : s ≡ b → Which s a b
  neither : s ≢ a → s ≢ b → Which s a b

pub which : (s a b : ℕ) → Which s a b
which s a b = go (ℕ_discrete s a) (ℕ_discrete s b)
  where
    go : Dec (s ≡ a) → Dec (s ≡ b) → Which s a b
    go (yes e) d = one e
    go (no e) (yes d) = two d
    go (no e) (no d) = neither e d

-- a live slot is no free one
pub live_ne : (g : ℕ → ℕ) {a b : ℕ} → g a ≢ 0 → g b ≡ 0 → a ≢ b
live_ne g {a} {b} h k e = h (ap g e ∙ k)

-- `i`, free before, stands immediately after `x`
pub record Spliced (g p n g' p' n' : ℕ → ℕ) (x i : ℕ) : Type 0 where
  pub target : g x ≢ 0
  pub fresh : g i ≡ 0
  pub g_i : g' i ≢ 0
  pub g_o : (s : ℕ) → s ≢ i → g' s ≡ g s
  pub n_x : n' x ≡ i
  pub n_i : n' i ≡ n x
  pub n_o : (s : ℕ) → s ≢ x → s ≢ i → n' s ≡ n s
  pub p_i : p' i ≡ x
  pub p_m : p' (n x) ≡ i
  pub p_o : (s : ℕ) → s ≢ i → s ≢ n x → p' s ≡ p s

module _ {g p n g' p' n' : ℕ → ℕ} {x i : ℕ} (S : Spliced g p n g' p' n' x i) (L : Links g p n) where
  stays : (s : ℕ) → g s ≢ 0 → g' s ≢ 0
  stays s h = rw (S.g_o s (live_ne g h S.fresh)) h

  was : (s : ℕ) → s ≢ i → g' s ≢ 0 → g s ≢ 0
  was s e h = rw (S.g_o s e) at h

  pub links-insert : Links g' p' n'
  links-insert = record {
    next-live = λ s h. go₁ s h (which s x i);
    prev_live = λ s h. go₂ s h (which s i (n x));
    prev_next = λ s h. go₃ s h (which s x i);
    next_prev = λ s h. go₄ s h (which s i (n x));
  }
    where
      go₁ : (s : ℕ) → g' s ≢ 0 → Which s x i → g' (n' s) ≢ 0
      go₁ s h (one e) = rw (e, S.n_x) S.g_i
      go₁ s h (two e) = rw (e, S.n_i) (stays (n x) (L.next-live x S.target))
      go₁ s h (neither e f) = rw (S.n_o s e f) (stays (n s) (L.next-live s (was s f h)))

      go₂ : (s : ℕ) → g' s ≢ 0 → Which s i (n x) → g' (p' s) ≢ 0
      go₂ s h (one e) = rw (e, S.p_i) (stays x S.target)
      go₂ s h (two e) = rw (e, S.p_m) S.g_i
      go₂ s h (neither e f) = rw (S.p_o s e f) (stays (p s) (L.prev_live s (was s e h)))

      go₃ : (s : ℕ) → g' s ≢ 0 → Which s x i → p' (n' s) ≡ s
      go₃ s h (one e) = rw (e, S.n_x) S.p_i
      go₃ s h (two e) = rw (e, S.n_i) S.p_m
      go₃ s h (neither e f) =
          let l = was s f h in
          let back = L.prev_next s l in
          rw (S.n_o s e f) (S.p_o (n s) (live_ne g (L.next-live s l) S.fresh) (λ q. e (sym back ∙ ap p q ∙ L.prev_next x S.target)) ∙ back)

      go₄ : (s : ℕ) → g' s ≢ 0 → Which s i (n x) → n' (p' s) ≡ s
      go₄ s h (one e) = rw (e, S.p_i) S.n_x
      go₄ s h (two e) = rw (e, S.p_m) S.n_i
      go₄ s h (neither e f) =
          let l = was s e h in
          let back = L.next_prev s l in
          rw (S.p_o s e f) (S.n_o (p s) (λ q. f (sym back ∙ ap n q)) (live_ne g (L.prev_live s l) S.fresh) ∙ back)

-- a ring of which nothing changes
pub ring-frame : {g cl n g' cl' n' : ℕ → ℕ} {d y k : ℕ}
    → Ring g cl n d y k → ((s : ℕ) → Frame g cl d s → Frame g' cl' d s) → ((s : ℕ) → Frame g' cl' d s → Frame g cl d s) → ((s : ℕ) → Frame g cl d s → n' s ≡ n s)
    → Ring g' cl' n' d y k
ring-frame {g} {cl} {n} {g'} {cl'} {n'} {d} {y} {k} r to back same =
    let fs = r.frames in
    record {
      rest = r.rest;
      round = rw (same y fs.0) (walk-frame n n' (n y) y r.rest (all_map same r.rest fs.1) r.round);
      once = r.once;
      frames = all_map to (y ∷ r.rest) fs;
      whole = λ s f. r.whole s (back s f);
      sized = r.sized;
    }

-- the ring that grows
pub ring-insert : {g cl n p g' cl' n' p' : ℕ → ℕ} {c x i k : ℕ} → Spliced g p n g' p' n' x i
    → cl' i ≡ c → ((s : ℕ) → s ≢ i → cl' s ≡ cl s)
    → Ring g cl n c x k → Ring g' cl' n' c x (k + 1)
ring-insert {g} {cl} {n} {p} {g'} {cl'} {n'} {p'} {c} {x} {i} {k} S e o r =
    let fs = r.frames in
    let apart : (s : ℕ) → Frame g cl c s → s ≢ i = λ s f. live_ne g f.live S.fresh in
    let to : (s : ℕ) → Frame g cl c s → Frame g' cl' c s = λ s f. record { live = rw (S.g_o s (apart s f)) f.live; mine = o s (apart s f) ∙ f.mine } in
    record {
      rest = i ∷ r.rest;
      round = (
        S.n_x,
        rw S.n_i (walk-frame n n' (n x) x r.rest (all_of (λ s. n' s ≡ n s) r.rest (λ s m.
            S.n_o s (λ q. all-at (λ z. x ≢ z) s r.rest r.once.0 m (sym q)) (apart s (all-at (Frame g cl c) s r.rest fs.1 m)))) r.round),
      );
      once = ((apart x fs.0, r.once.0), (all_map (λ s f q. apart s f (sym q)) r.rest fs.1, r.once.1));
      frames = (to x fs.0, (record { live = S.g_i; mine = e }, all_map to r.rest fs.1));
      whole = λ s f. go s f (ℕ_discrete s i);
      sized = omega (arith, r.sized);
    }
  where
    put_in : (s : ℕ) → In s (x ∷ r.rest) → In s (x ∷ i ∷ r.rest)
    put_in s (inl q) = inl q
    put_in s (inr m) = inr (inr m)

    go : (s : ℕ) → Frame g' cl' c s → Dec (s ≡ i) → In s (x ∷ i ∷ r.rest)
    go s f (yes q) = inr (inl q)
    go s f (no q) = put_in s (r.whole s (record { live = rw (S.g_o s q) at f.live; mine = rw (o s q) at f.mine }))

-- the next links of `a` and `b` are exchanged, previous links following
pub record Exchanged (p n p' n' : ℕ → ℕ) (a b : ℕ) : Type 0 where
  pub n_a : n' a ≡ n b
  pub n_b : n' b ≡ n a
  pub n_o : (s : ℕ) → s ≢ a → s ≢ b → n' s ≡ n s
  pub p_b : p' (n b) ≡ a
  pub p_a : p' (n a) ≡ b
  pub p_o : (s : ℕ) → s ≢ n a → s ≢ n b → p' s ≡ p s

pub exchanged-sym : {p n p' n' : ℕ → ℕ} {a b : ℕ} → Exchanged p n p' n' a b → Exchanged p n p' n' b a
exchanged-sym X =
    record { n_a = X.n_b; n_b = X.n_a; n_o = λ s e f. X.n_o s f e; p_b = X.p_a; p_a = X.p_b; p_o = λ s e f. X.p_o s f e }

module _ {g p n p' n' : ℕ → ℕ} {a b : ℕ} (X : Exchanged p n p' n' a b) (L : Links g p n) (ha : g a ≢ 0) (hb : g b ≢ 0) where
  pub links-exchange : Links g p' n'
  links-exchange = record {
    next-live = λ s h. go₁ s h (which s a b);
    prev_live = λ s h. go₂ s h (which s (n a) (n b));
    prev_next = λ s h. go₃ s h (which s a b);
    next_prev = λ s h. go₄ s h (which s (n a) (n b));
  }
    where
      go₁ : (s : ℕ) → g s ≢ 0 → Which s a b → g (n' s) ≢ 0
      go₁ s h (one e) = rw (e, X.n_a) (L.next-live b hb)
      go₁ s h (two e) = rw (e, X.n_b) (L.next-live a ha)
      go₁ s h (neither e f) = rw (X.n_o s e f) (L.next-live s h)

      go₂ : (s : ℕ) → g s ≢ 0 → Which s (n a) (n b) → g (p' s) ≢ 0
      go₂ s h (one e) = rw (e, X.p_a) hb
      go₂ s h (two e) = rw (e, X.p_b) ha
      go₂ s h (neither e f) = rw (X.p_o s e f) (L.prev_live s h)

      go₃ : (s : ℕ) → g s ≢ 0 → Which s a b → p' (n' s) ≡ s
      go₃ s h (one e) = rw (e, X.n_a) X.p_b
      go₃ s h (two e) = rw (e, X.n_b) X.p_a
      go₃ s h (neither e f) =
          let back = L.prev_next s h in
          rw (X.n_o s e f) (X.p_o (n s) (λ q. e (sym back ∙ ap p q ∙ L.prev_next a ha)) (λ q. f (sym back ∙ ap p q ∙ L.prev_next b hb)) ∙ back)

      go₄ : (s : ℕ) → g s ≢ 0 → Which s (n a) (n b) → n' (p' s) ≡ s
      go₄ s h (one e) = rw (e, X.p_a) X.n_b
      go₄ s h (two e) = rw (e, X.p_b) X.n_a
      go₄ s h (neither e f) =
          let back = L.next_prev s h in
          rw (X.p_o s e f) (X.n_o (p s) (λ q. e (sym back ∙ ap n q)) (λ q. f (sym back ∙ ap n q)) ∙ back)

-- two rings become one
pub ring-join : {g cl n p cl' n' p' : ℕ → ℕ} {c d a b k l : ℕ} → Exchanged p n p' n' a b → c ≢ d
    → ((s : ℕ) → Frame g cl c s → cl' s ≡ c) → ((s : ℕ) → Frame g cl d s → cl' s ≡ c) → ((s : ℕ) → g s ≢ 0 → cl' s ≡ c → Frame g cl c s ⊎ Frame g cl d s)
    → Ring g cl n c a k → Ring g cl n d b l → Ring g cl' n' c a (k + l)
ring-join {g} {cl} {n} {p} {cl'} {n'} {p'} {c} {d} {a} {b} {k} {l} X cd keep move from r q = record {
  rest = q.rest ++ b ∷ r.rest;
  round = rw X.n_a (walk-join n' (n b) a b q.rest r.rest
      (walk-frame n n' (n b) b q.rest (all_of (λ s. n' s ≡ n s) q.rest (λ s m. X.n_o s (λ e. across a s r.frames.0 (in_q s m) (sym e)) (λ e. all-at (λ z. b ≢ z) s q.rest q.once.0 m (sym e)))) q.round)
      (rw X.n_b (walk-frame n n' (n a) a r.rest (all_of (λ s. n' s ≡ n s) r.rest (λ s m. X.n_o s (λ e. all-at (λ z. a ≢ z) s r.rest r.once.0 m (sym e)) (λ e. across s b (in_r s m) q.frames.0 e))) r.round)));
  once = (
    all_append (λ y. a ≢ y) q.rest (b ∷ r.rest) (all_map (λ s f. across a s r.frames.0 f) q.rest q.frames.1) (across a b r.frames.0 q.frames.0, r.once.0),
    nodup_append q.rest (b ∷ r.rest) q.once.1 (apart b q.frames.0, r.once.1)
        (all_of (λ s. Out s (b ∷ r.rest)) q.rest (λ s m. ((λ e. all-at (λ z. b ≢ z) s q.rest q.once.0 m (sym e)), apart s (in_q s m)))),
  );
  frames = (kept a r.frames.0, all_append (Frame g cl' c) q.rest (b ∷ r.rest) (all_map moved q.rest q.frames.1) (moved b q.frames.0, all_map kept r.rest r.frames.1));
  whole = λ s f. whole s (from s f.live f.mine);
  sized = rw length-append (omega (arith, r.sized, q.sized));
}
  where
    across : (s t : ℕ) → Frame g cl c s → Frame g cl d t → s ≢ t
    across s t f h e = cd (sym f.mine ∙ ap cl e ∙ h.mine)

    in_q : (s : ℕ) → In s q.rest → Frame g cl d s
    in_q s m = all-at (Frame g cl d) s q.rest q.frames.1 m

    in_r : (s : ℕ) → In s r.rest → Frame g cl c s
    in_r s m = all-at (Frame g cl c) s r.rest r.frames.1 m

    -- a frame of the second ring is none of the first
    apart : (t : ℕ) → Frame g cl d t → Out t r.rest
    apart t h = all_map (λ s f e. across s t f h (sym e)) r.rest r.frames.1

    kept : (s : ℕ) → Frame g cl c s → Frame g cl' c s
    kept s f = record { live = f.live; mine = keep s f }

    moved : (s : ℕ) → Frame g cl d s → Frame g cl' c s
    moved s f = record { live = f.live; mine = move s f }

    first : (s : ℕ) → In s (a ∷ r.rest) → In s (a ∷ (q.rest ++ b ∷ r.rest))
    first s (inl e) = inl e
    first s (inr m) = inr (in_right s q.rest (b ∷ r.rest) (inr m))

    second : (s : ℕ) → In s (b ∷ q.rest) → In s (a ∷ (q.rest ++ b ∷ r.rest))
    second s (inl e) = inr (in_right s q.rest (b ∷ r.rest) (inl e))
    second s (inr m) = inr (in_left s q.rest (b ∷ r.rest) m)

    whole : (s : ℕ) → Frame g cl c s ⊎ Frame g cl d s → In s (a ∷ (q.rest ++ b ∷ r.rest))
    whole s (inl f) = first s (r.whole s f)
    whole s (inr f) = second s (q.whole s f)

-- `x` is taken out
pub record Excised (g p n g' p' n' : ℕ → ℕ) (x : ℕ) : Type 0 where
  pub target : g x ≢ 0
  pub g_x : g' x ≡ 0
  pub g_o : (s : ℕ) → s ≢ x → g' s ≡ g s
  pub n_p : p x ≢ x → n' (p x) ≡ n x
  pub n_o : (s : ℕ) → s ≢ x → s ≢ p x → n' s ≡ n s
  pub p_n : n x ≢ x → p' (n x) ≡ p x
  pub p_o : (s : ℕ) → s ≢ x → s ≢ n x → p' s ≡ p s

-- the same seen backwards
links-back : {g p n : ℕ → ℕ} → Links g p n → Links g n p
links-back L = record { next-live = L.prev_live; prev_live = L.next-live; prev_next = L.next_prev; next_prev = L.prev_next }

excised_back : {g p n g' p' n' : ℕ → ℕ} {x : ℕ} → Excised g p n g' p' n' x → Excised g n p g' n' p' x
excised_back X = record { target = X.target; g_x = X.g_x; g_o = X.g_o; n_p = X.p_n; n_o = X.p_o; p_n = X.n_p; p_o = X.n_o }

module _ {g p n g' p' n' : ℕ → ℕ} {x : ℕ} (X : Excised g p n g' p' n' x) (L : Links g p n) where
  left : (s : ℕ) → g' s ≢ 0 → s ≢ x
  left s h e = h (ap g' e ∙ X.g_x)

  old : (s : ℕ) → g' s ≢ 0 → g s ≢ 0
  old s h = rw (X.g_o s (left s h)) at h

  next-after : (s : ℕ) → g' s ≢ 0 → g' (n' s) ≢ 0
  next-after s h = go (ℕ_discrete s (p x))
    where
      go : Dec (s ≡ p x) → g' (n' s) ≢ 0
      go (yes e) =
          let px : p x ≢ x = λ q. left s h (e ∙ q) in
          let nx : n x ≢ x = λ q. px (sym (ap p q) ∙ L.prev_next x X.target) in
          rw (e, X.n_p px, X.g_o (n x) nx) (L.next-live x X.target)
      go (no e) =
          let nx : n s ≢ x = λ q. e (sym (L.prev_next s (old s h)) ∙ ap p q) in
          rw (X.n_o s (left s h) e, X.g_o (n s) nx) (L.next-live s (old s h))

  prev_next_after : (s : ℕ) → g' s ≢ 0 → p' (n' s) ≡ s
  prev_next_after s h = go (ℕ_discrete s (p x))
    where
      go : Dec (s ≡ p x) → p' (n' s) ≡ s
      go (yes e) =
          let px : p x ≢ x = λ q. left s h (e ∙ q) in
          let nx : n x ≢ x = λ q. px (sym (ap p q) ∙ L.prev_next x X.target) in
          rw (e, X.n_p px) (X.p_n nx)
      go (no e) =
          let back = L.prev_next s (old s h) in
          let nx : n s ≢ x = λ q. e (sym back ∙ ap p q) in
          rw (X.n_o s (left s h) e) (X.p_o (n s) nx (λ q. left s h (sym back ∙ ap p q ∙ L.prev_next x X.target)) ∙ back)

  -- the next link of each frame that is left passes over `x`
  pub skips : (s : ℕ) → g s ≢ 0 → s ≢ x → n' s ≡ skip x (n x) (n s)
  unfolding skip
  skips s h o = go (ℕ_discrete s (p x))
    where
      go : Dec (s ≡ p x) → n' s ≡ upd (λ z. z) x (n x) (n s)
      go (yes e) = rw (e, X.n_p (λ q. o (e ∙ q)), L.next_prev x X.target, upd_same)
      go (no e) = X.n_o s o e ∙ sym (upd_other (λ z. z) x (n x) (n s) (λ q. e (sym (L.prev_next s h) ∙ ap p q)))

pub links-remove : {g p n g' p' n' : ℕ → ℕ} {x : ℕ} → Excised g p n g' p' n' x → Links g p n → Links g' p' n'
links-remove X L =
    let Y = excised_back X in
    let M = links-back L in
    record {
      next-live = next-after X L;
      prev_live = next-after Y M;
      prev_next = prev_next_after X L;
      next_prev = prev_next_after Y M;
    }

-- the ring that shrinks
pub ring-remove : {g cl n p g' cl' n' p' : ℕ → ℕ} {c x k : ℕ} → Excised g p n g' p' n' x → Links g p n → ((s : ℕ) → s ≢ x → cl' s ≡ cl s)
    → k ≢ 1 → Ring g cl n c x k → (y : ℕ) × Ring g' cl' n' c y (k - 1)
ring-remove {g} {cl} {n} {p} {g'} {cl'} {n'} {p'} {c} {x} {k} X L o many r = go r.rest r.round r.once r.frames r.whole r.sized
  where
    kept : (s : ℕ) → s ≢ x → Frame g cl c s → Frame g' cl' c s
    kept s e f = record { live = rw (X.g_o s e) f.live; mine = o s e ∙ f.mine }

    ne : {s : ℕ} → x ≢ s → s ≢ x
    ne h e = h (sym e)

    rest_of : (s : ℕ) (zs : List ℕ) → s ≢ x → In s (x ∷ zs) → In s zs
    rest_of s zs e (inl q) = absurd (e q)
    rest_of s zs e (inr m) = m

    go : (rest : List ℕ) → Walk n (n x) x rest → NoDup (x ∷ rest) → All (Frame g cl c) (x ∷ rest) → ((s : ℕ) → Frame g cl c s → In s (x ∷ rest)) → suc (length rest) ≡ k
        → (y : ℕ) × Ring g' cl' n' c y (k - 1)
    go [] w u f h l = absurd (many (sym l))
    go (y ∷ ys) w u f h l = (
      y,
      record {
        rest = ys;
        round = subst₂ (λ (i j : ℕ). Walk n' i j ys) (sym (skips X L y f.1.0.live (ne u.0.0))) (skip-here x (n x) ∙ w.0)
            (walk-map (skip x (n x)) n n' (n y) x ys (all_of (λ s. (skip x (n x) s ≡ s) × (n' s ≡ skip x (n x) (n s))) ys (λ s m.
            let e : s ≢ x = ne (all-at (λ z. x ≢ z) s ys u.0.1 m) in
            (skip-past x (n x) s e, skips X L s (all-at (Frame g cl c) s ys f.1.1 m).live e))) w.1);
        once = u.1;
        frames = all_of (Frame g' cl' c) (y ∷ ys) (λ s m. kept s (ne (all-at (λ z. x ≢ z) s (y ∷ ys) u.0 m)) (all-at (Frame g cl c) s (y ∷ ys) f.1 m));
        whole = λ s q. let z : s ≢ x = λ e. q.live (ap g' e ∙ X.g_x) in rest_of s (y ∷ ys) z (h s (record { live = rw (X.g_o s z) at q.live; mine = sym (o s z) ∙ q.mine }));
        sized = omega arith;
      },
    )
