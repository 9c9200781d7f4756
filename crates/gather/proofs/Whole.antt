-- The element side as a whole: gathered, pasted back, and zeros past it and in the scratch.
use mathlib.Core.Path.{◌≡◌, sym, ap, ◌∙◌}
use mathlib.Core.List.{List, ◌++◌}
use Prim.Native.Nat.{ℕ, suc, ◌+◌, ◌*◌, ◌-◌, ◌/◌, ◌%◌, ◌≤◌, ◌<◌}
use native.Mathlib.Nat.{div-add-mod', mod-lt, le-div_iff_mul-le}
use native.Mathlib.Omega.{arith}
use native.Mathlib.Decide.{dec_lt}
use lib.ListN.{length, get_or, drop, replicate, length-append, length-replicate, length-drop, get_or-replicate, get_or-append, get_or-eq_default}
use lib.Seq.{ext_get_or, get_or-append-add, get_or-drop}
use Rattle.rules.specs.Tables.{most_slots, frame_width, cell, State}
use Rattle.rules.specs.Calls.{Ready}
use Rattle.rules.proofs.Laws.Soundness.{shaped_of}
use Rattle.copies.specs.Parts.{Pasted, Zeroed}
use Rattle.gather.specs.Elements.{Moved, Gathered, Regrouped}
use Rattle.gather.proofs.Scan.{order_fits}

-- a buffer whose first `n` numbers are zero, the rest untouched
wiped_is : (n : ℕ) (t t' : List ℕ) → n ≤ length t → length t' ≡ length t → ((j : ℕ) → j < n → get_or t' j 0 ≡ 0) → ((j : ℕ) → n ≤ j → get_or t' j 0 ≡ get_or t j 0) → t' ≡ replicate n 0 ++ drop n t
wiped_is n t t' l e z k = ext_get_or 0 t' (replicate n 0 ++ drop n t) (e ∙ rw (length-append, length-replicate, length-drop) (omega arith)) (λ j b. go j (dec_lt j n))
  where
    go : (j : ℕ) → Dec (j < n) → get_or t' j 0 ≡ get_or (replicate n 0 ++ drop n t) j 0
    go j (yes d) = z j d ∙ sym (get_or-append (replicate n 0) (drop n t) 0 j (rw length-replicate d) ∙ get_or-replicate n j 0 0 d)
    go j (no d) =
        let q : length {A = ℕ} (replicate n 0) + (j - n) ≡ j = rw length-replicate (omega arith) in
        let y : n + (j - n) ≡ j = omega arith in
        k j (omega arith) ∙ sym (ap (λ (i : ℕ). get_or (replicate n 0 ++ drop n t) i 0) (sym q) ∙ get_or-append-add (replicate n 0) (drop n t) (j - n) 0 ∙ get_or-drop n t (j - n) 0 ∙ rw y)

-- the numbers past `n` rows, where the slots past `n` stay
rows_still : (t t' : List ℕ) (n : ℕ) → ((f s : ℕ) → f < frame_width → n < s → cell frame_width t' f s ≡ cell frame_width t f s) → (j : ℕ) → n * frame_width ≤ j → get_or t' j 0 ≡ get_or t j 0
unfolding cell
rows_still t t' n h j l =
    let q : j / frame_width * frame_width + j % frame_width ≡ j = div-add-mod' j frame_width in
    rw q at (h (j % frame_width) (suc (j / frame_width)) (mod-lt j (omega arith)) (above ((le-div_iff_mul-le {k = frame_width} {x = n} {y = j} (omega arith)).1 l)))
  where
    above : {a b : ℕ} → a ≤ b → a < suc b
    above m = omega arith

cell_at : (t t' : List ℕ) (u f : ℕ) → get_or t (u * frame_width + f) 0 ≡ get_or t' (u * frame_width + f) 0 → cell frame_width t f (suc u) ≡ cell frame_width t' f (suc u)
unfolding cell
cell_at t t' u f e = e

-- the rows that were gathered fit both tables
pub record Rows (e sc : List ℕ) (n : ℕ) : Type 0 where
  pub few : n ≤ most_slots
  pub elems : n * frame_width ≤ length e
  pub scratch : n * frame_width ≤ length sc

pub rows : (st : State) (sc₀ : List ℕ) (g : ℕ) (e sc : List ℕ) (n : ℕ) → Ready st → st.head.elems.capacity * frame_width ≤ length sc₀ → Gathered st sc₀ g e sc n → Rows e sc n
rows st sc₀ g e sc n R room G =
    let fit = order_fits st R in
    let H = shaped_of st R.shape in
    record {
      few = omega (arith, G.all, fit, H.elems.small);
      elems = omega (arith, G.all, fit, H.elems.long, G.long);
      scratch = omega (arith, G.all, fit, room, G.wide);
    }

-- the element side
pub regrouped : (st : State) (sc₀ : List ℕ) (g : ℕ) (e₁ sc₁ e₂ e₃ sc₂ : List ℕ) (n : ℕ) → Ready st → st.head.elems.capacity * frame_width ≤ length sc₀ → Gathered st sc₀ g e₁ sc₁ n
    → Pasted e₁ sc₁ (n * frame_width) e₂ → Zeroed e₂ (n * frame_width) (length e₂) e₃ → Zeroed sc₁ 0 (st.head.elems.capacity * frame_width) sc₂ → Regrouped st sc₀ g e₃ sc₂
regrouped st sc₀ g e₁ sc₁ e₂ e₃ sc₂ n R room G P Z W =
    let fit = order_fits st R in
    record {
      long = Z.long ∙ P.long ∙ G.long;
      frames = λ u l. frames u (rw G.all l);
      past = λ j k. past j (rw G.all k) (dec_lt j (length e₂));
      scratch = wiped_is (st.head.elems.capacity * frame_width) sc₀ sc₂ room (W.long ∙ G.wide) (λ j k. W.within j (omega arith) k) (λ j k. W.past j k ∙ rows_still sc₀ sc₁ n G.still j (omega (arith, G.all, fit)));
    }
  where
    same : (u f : ℕ) → u < n → f < frame_width → cell frame_width e₃ f (suc u) ≡ cell frame_width sc₁ f (suc u)
    same u f l h = cell_at e₃ sc₁ u f (Z.below (u * frame_width + f) (omega arith) ∙ P.below (u * frame_width + f) (omega arith))

    frames : (u : ℕ) → u < n → Moved st g e₃ u
    frames u l f h = same u f l h ∙ G.frames u l f h

    past : (j : ℕ) → n * frame_width ≤ j → Dec (j < length e₂) → get_or e₃ j 0 ≡ 0
    past j k (yes l) = Z.within j k l
    past j k (no l) = get_or-eq_default e₃ 0 (omega (arith, Z.long))
