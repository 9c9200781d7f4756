-- The exchange of the same two next links makes two rings of one, and brings both links back.
use mathlib.Core.Path.{◌≡◌, refl, sym, ap, ◌∙◌, fun_ext}
use mathlib.Core.Logic.{◌≢◌, ◌⊎◌, inl, inr}
use mathlib.Core.List.{List, ◌∷◌, ◌++◌}
use Prim.Native.Nat.{ℕ, suc}
use native.Mathlib.Decide.{ℕ_discrete}
use lib.ListN.{length}
use Rattle.rules.proofs.Laws.Lists.{All, In, Out, NoDup, Walk, all_map, all_both, all-at, all_of, all_parts, in_parts, in_dec, nodup_parts, across, out_of, walk-cut, walk-frame}
use Rattle.rules.proofs.Laws.Columns.{upd, upd_same, upd_other}
use Rattle.rules.proofs.Laws.Working.{Links, Frame, Ring}
use Rattle.rules.proofs.Laws.Links.{Which, one, two, neither, which, Exchanged}

module _ {g p n : ℕ → ℕ} (L : Links g p n) (a b : ℕ) (ha : g a ≢ 0) (hb : g b ≢ 0) (ab : a ≢ b) where
  -- the columns with two links exchanged
  pub links_crossed : Exchanged p n (upd (upd p (n b) a) (n a) b) (upd (upd n a (n b)) b (n a)) a b
  links_crossed =
      let mn : n b ≢ n a = λ e. ab (sym (L.prev_next a ha) ∙ sym (ap p e) ∙ L.prev_next b hb) in
      record {
        n_a = simp (upd_other, upd_same);
        n_b = simp upd_same;
        n_o = λ s e f. simp upd_other;
        p_b = simp (upd_other, upd_same);
        p_a = simp upd_same;
        p_o = λ s e f. simp upd_other;
      }

-- exchanged again
module _ {g p n p' n' p'' n'' : ℕ → ℕ} {a b : ℕ} (L : Links g p n) (ha : g a ≢ 0) (hb : g b ≢ 0) (X : Exchanged p n p' n' a b) (Y : Exchanged p' n' p'' n'' a b) where
  pub next-again : n'' ≡ n
  next-again = fun_ext λ s. go s (which s a b)
    where
      go : (s : ℕ) → Which s a b → n'' s ≡ n s
      go s (one e) = rw e (Y.n_a ∙ X.n_b)
      go s (two e) = rw e (Y.n_b ∙ X.n_a)
      go s (neither e f) = Y.n_o s e f ∙ X.n_o s e f

  pub prev_again : p'' ≡ p
  prev_again = fun_ext λ s. go s (which s (n a) (n b))
    where
      go : (s : ℕ) → Which s (n a) (n b) → p'' s ≡ p s
      go s (one e) = rw e (ap p'' (sym X.n_b) ∙ Y.p_b ∙ sym (L.prev_next a ha))
      go s (two e) = rw e (ap p'' (sym X.n_a) ∙ Y.p_a ∙ sym (L.prev_next b hb))
      go s (neither e f) = Y.p_o s (λ q. f (q ∙ X.n_a)) (λ q. e (q ∙ X.n_b)) ∙ X.p_o s e f

-- the frames from after `a` up to `b` get the class `d`, which no live frame has; the others keep theirs
module _ {g cl n p cl' n' p' : ℕ → ℕ} {c d a b k : ℕ} (X : Exchanged p n p' n' a b) (r : Ring g cl n c a k) (ys xs : List ℕ) (cut : r.rest ≡ ys ++ b ∷ xs)
    (unused : (s : ℕ) → g s ≢ 0 → cl s ≢ d) (move : (s : ℕ) → In s (b ∷ ys) → cl' s ≡ d) (stay : (s : ℕ) → Out s (b ∷ ys) → cl' s ≡ cl s) where
  record Parts : Type 0 where
    walk_a : Walk n (n b) a xs
    walk_b : Walk n (n a) b ys
    a_xs : Out a xs
    a_ys : Out a ys
    ab : a ≢ b
    b_xs : Out b xs
    b_ys : Out b ys
    xs_once : NoDup xs
    ys_once : NoDup ys
    apart : All (λ y. Out y xs) ys
    frame_a : Frame g cl c a
    frame_b : Frame g cl c b
    frames_xs : All (Frame g cl c) xs
    frames_ys : All (Frame g cl c) ys

  parts : Parts
  parts =
      let w = walk-cut n (n a) a b ys xs (rw cut at r.round) in
      let u : NoDup (a ∷ (ys ++ b ∷ xs)) = rw cut at r.once in
      let o = all_parts (λ y. a ≢ y) ys (b ∷ xs) u.0 in
      let q = nodup_parts ys (b ∷ xs) u.1 in
      let f : All (Frame g cl c) (a ∷ (ys ++ b ∷ xs)) = rw cut at r.frames in
      let h = all_parts (Frame g cl c) ys (b ∷ xs) f.1 in
      record {
        walk_a = w.1;
        walk_b = w.0;
        a_xs = o.1.1;
        a_ys = o.0;
        ab = o.1.0;
        b_xs = q.1.0;
        b_ys = (across ys (b ∷ xs) q.2).0;
        xs_once = q.1.1;
        ys_once = q.0;
        apart = all_map (λ y m. m.1) ys q.2;
        frame_a = f.0;
        frame_b = h.1.0;
        frames_xs = h.1.1;
        frames_ys = h.0;
      }

  same-on : (zs : List ℕ) → Out a zs → Out b zs → All (λ s. n' s ≡ n s) zs
  same-on zs = all_both {P = λ s. a ≢ s} {Q = λ s. b ≢ s} (λ s e f. X.n_o s (λ q. e (sym q)) (λ q. f (sym q))) zs

  cases : (s : ℕ) → In s (a ∷ (ys ++ b ∷ xs)) → In s (b ∷ ys) ⊎ In s (a ∷ xs)
  cases s (inl e) = inr (inl e)
  cases s (inr m) = go (in_parts s ys (b ∷ xs) m)
    where
      go : In s ys ⊎ In s (b ∷ xs) → In s (b ∷ ys) ⊎ In s (a ∷ xs)
      go (inl i) = inl (inr i)
      go (inr (inl e)) = inl (inl e)
      go (inr (inr i)) = inr (inr i)

  -- the ring that stays
  pub ring-kept : Ring g cl' n' c a (suc (length xs))
  ring-kept = record {
    rest = xs;
    round = rw X.n_a (walk-frame n n' (n b) a xs (same-on xs P.a_xs P.b_xs) P.walk_a);
    once = (P.a_xs, P.xs_once);
    frames = (kept a (P.ab, P.a_ys) P.frame_a, all_of (Frame g cl' c) xs (λ s m. kept s (out_xs s m) (all-at (Frame g cl c) s xs P.frames_xs m)));
    whole = λ s f. whole s f (in_dec ℕ_discrete s (b ∷ ys));
    sized = refl;
  }
    where
      P : Parts
      P = parts

      out_xs : (s : ℕ) → In s xs → Out s (b ∷ ys)
      out_xs s m = ((λ e. all-at (λ z. b ≢ z) s xs P.b_xs m (sym e)), all-at (λ z. Out z ys) s xs (across ys xs P.apart) m)

      kept : (s : ℕ) → Out s (b ∷ ys) → Frame g cl c s → Frame g cl' c s
      kept s o f = record { live = f.live; mine = stay s o ∙ f.mine }

      whole : (s : ℕ) → Frame g cl' c s → Dec (In s (b ∷ ys)) → In s (a ∷ xs)
      whole s f (yes m) = absurd (unused a P.frame_a.live (P.frame_a.mine ∙ sym f.mine ∙ move s m))
      whole s f (no m) = go (cases s (rw cut at (r.whole s (record { live = f.live; mine = sym (stay s (out_of s (b ∷ ys) m)) ∙ f.mine }))))
        where
          go : In s (b ∷ ys) ⊎ In s (a ∷ xs) → In s (a ∷ xs)
          go (inl i) = absurd (m i)
          go (inr i) = i

  pub rest-kept : ring-kept.rest ≡ xs
  unfolding ring-kept
  rest-kept = refl

  -- the ring that comes off
  pub walk_off : Walk n' (n' b) b ys
  walk_off = let P = parts in rw X.n_b (walk-frame n n' (n a) b ys (same-on ys P.a_ys P.b_ys) P.walk_b)

  pub once_off : NoDup (b ∷ ys)
  once_off = (parts.b_ys, parts.ys_once)

  pub frames_off : All (Frame g cl' d) (b ∷ ys)
  frames_off = let P = parts in all_of (Frame g cl' d) (b ∷ ys) (λ s m. record { live = (all-at (Frame g cl c) s (b ∷ ys) (P.frame_b, P.frames_ys) m).live; mine = move s m })

  pub ring_off : Ring g cl' n' d b (suc (length ys))
  ring_off = record { rest = ys; round = walk_off; once = once_off; frames = frames_off; whole = λ s f. whole s f (in_dec ℕ_discrete s (b ∷ ys)); sized = refl }
    where
      whole : (s : ℕ) → Frame g cl' d s → Dec (In s (b ∷ ys)) → In s (b ∷ ys)
      whole s f (yes m) = m
      whole s f (no m) = absurd (unused s f.live (sym (stay s (out_of s (b ∷ ys) m)) ∙ f.mine))

  pub rest_off : ring_off.rest ≡ ys
  unfolding ring_off
  rest_off = refl
