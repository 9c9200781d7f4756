-- The two scans over the slots: what is stored, and what is left to store.
use Rattle.std.specs.Prelude.{if◌then◌else◌}
use Prim.Native.Nat.{ℕ, zero, suc, ◌+◌, ◌*◌, ◌-◌, ◌≤◌, ◌<◌}
use mathlib.Core.Path.{◌≡◌, refl, sym, ap, ◌∙◌, subst}
use mathlib.Core.Bool.{Bool, true, false, true≢false}
use mathlib.Core.List.{List, [], ◌∷◌, ◌++◌, map, append-nil}
use native.Mathlib.Omega.{arith}
use lib.ListN.{length, take, drop, set, length-append, length-drop}
use lib.Seq.{sets, length-sets, take_all, drop-length, drop-drop}
use borrow.Rule.Slice.PartMut.{put_mid}
use Rattle.rules.specs.Tables.{generation_of, State}
use Rattle.rules.specs.Compress.{is_lowest, lowest_slots}
use Rattle.rules.specs.Bytes.{little}
use Rattle.rules.specs.RunFile.{StoredRun, body_bytes, body_length, entries, entry_bytes}
use Rattle.rules.specs.WriteFile.{run_in, runs_in}
use Rattle.rules.specs.Calls.{Ready}
use Rattle.rules.proofs.Laws.Numbers.{length-little}
use Rattle.rules.proofs.Laws.FileLength.{length-body}
use Rattle.rules.proofs.Laws.Order.{Looked, free, first, later, looked}
use Rattle.rules.proofs.Laws.Safe.{working, LiveSlot}
use Rattle.file_writes.specs.Writes.{bodies_of, entries_of, lowest_past, runs_from, Marks, Begins, FitsAll}
use Rattle.file_writes.proofs.Frames.{sets_then}

-- ---- the runs that are left

past_all : (st : State) → runs_from st 0 ≡ runs_in st
unfolding runs_in lowest_slots
past_all st = let z : st.head.elems.extent - 0 ≡ st.head.elems.extent = omega arith in rw z

past-step : (st : State) (k : ℕ) (b : Bool) → k < st.head.elems.extent → is_lowest st (suc k) ≡ b → runs_from st k ≡ map (run_in st) (if b then suc k ∷ lowest_past st (suc k) else lowest_past st (suc k))
past-step st k b h e =
    let z : st.head.elems.extent - k ≡ suc (st.head.elems.extent - suc k) = omega arith in
    rw (z, e)

past_end : (st : State) (k : ℕ) → st.head.elems.extent ≤ k → runs_from st k ≡ []
past_end st k h = let z : st.head.elems.extent - k ≡ 0 = omega arith in rw z

-- a slot that begins a run is live
pub begins-live : (st : State) (R : Ready st) (k : ℕ) (seen : List ℕ) → k < st.head.elems.extent → Begins st k true seen → LiveSlot st (k + 1)
begins-live st R k seen h b =
    let z : k + 1 ≡ suc k = omega arith in
    rw z (record { some = omega arith; within = h; used = used (is_lowest st (suc k)) (looked st (working st R) (suc k)) b.lowest })
  where
    used : (t : Bool) → Looked st (suc k) t → t ≡ true → 1 ≤ generation_of st.elems (suc k)
    used t (free q) e = absurd (true≢false (sym e))
    used t (first g a) e = omega (arith, g)
    used t (later g y m l) e = absurd (true≢false (sym e))

-- ---- the bodies

pub record Laying (st : State) (seen₀ out₀ : List ℕ) (start : ℕ) (seen out : List ℕ) (i at : ℕ) : Type 0 where
  pub marks : Marks st i seen
  pub wide : length seen ≡ length seen₀
  pub room : at + length (bodies_of (runs_from st i)) ≤ length out
  pub rest : sets out at (bodies_of (runs_from st i)) ≡ sets out₀ start (bodies_of (runs_in st))
  pub long : length out ≡ length out₀

pub laying_first : (st : State) (seen out : List ℕ) (start : ℕ) → Marks st 0 seen → FitsAll st start out → Laying st seen out start seen out 0 start
laying_first st seen out start m f = record { marks = m; wide = refl; room = rw (past_all st) f.bodies; rest = rw (past_all st); long = refl }

-- a part that was lent, and has come back
sets_cons : (x : ℕ) (l : List ℕ) (i : ℕ) (bs : List ℕ) → sets (x ∷ l) (suc i) bs ≡ x ∷ sets l i bs
sets_cons x l i [] = refl
sets_cons x l i (b ∷ bs) = sets_cons x (set l i b) (suc i) bs

sets_part : (l : List ℕ) (at : ℕ) (bs : List ℕ) → at ≤ length l → take at l ++ sets (drop at l) 0 bs ≡ sets l at bs
sets_part l zero bs h = refl
sets_part [] (suc at) bs h = absurd (omega arith)
sets_part (x ∷ l) (suc at) bs h = ap (λ (y : List ℕ). x ∷ y) (sets_part l at bs (omega arith)) ∙ sym (sets_cons x l at bs)

pub rest_of : (l : List ℕ) (at : ℕ) → take (length l - at) (drop at l) ≡ drop at l
rest_of l at = take_all (length l - at) (drop at l) (omega (arith, length-drop at l))

lent : (l : List ℕ) (at : ℕ) (part bs : List ℕ) → at ≤ length l → part ≡ sets (take (length l - at) (drop at l)) 0 bs → put_mid at (length l - at) l part ≡ sets l at bs
lent l at part bs h e =
    let z : at + (length l - at) ≡ length l = omega arith in
    rw (e, rest_of l at, drop-drop (length l - at) at l, z, drop-length l, append-nil (sets (drop at l) 0 bs)) (sets_part l at bs h)

module _ {st : State} {seen₀ out₀ : List ℕ} {start : ℕ} {seen out : List ℕ} {i at : ℕ} (l : Laying st seen₀ out₀ start seen out i at) (h : i < st.head.elems.extent) (seen₁ : List ℕ) (w : length seen₁ ≡ length seen) where
  pub laying_skip : Begins st i false seen₁ → Laying st seen₀ out₀ start seen₁ out (i + 1) at
  laying_skip b =
      let d : i + 1 ≡ suc i = omega arith in
      let e : runs_from st i ≡ runs_from st (suc i) = past-step st i false h b.lowest in
      rw d (record { marks = b.marks; wide = w ∙ l.wide; room = subst (λ (rs : List StoredRun). at + length (bodies_of rs) ≤ length out) e l.room; rest = subst (λ (rs : List StoredRun). sets out at (bodies_of rs) ≡ sets out₀ start (bodies_of (runs_in st))) e l.rest; long = l.long })

  module _ (b : Begins st i true seen₁) where
    split : runs_from st i ≡ run_in st (suc i) ∷ runs_from st (suc i)
    split = past-step st i true h b.lowest

    lengths : length (bodies_of (runs_from st i)) ≡ body_length 1 (run_in st (suc i)) + length (bodies_of (runs_from st (suc i)))
    lengths = ap (λ (rs : List StoredRun). length (bodies_of rs)) split ∙ length-append (body_bytes 1 (run_in st (suc i))) (bodies_of (runs_from st (suc i))) ∙ rw (length-body 1 (run_in st (suc i)))

    pub laying_room : at + body_length 1 (run_in st (i + 1)) ≤ length out
    laying_room = let d : i + 1 ≡ suc i = omega arith in rw d (omega (arith, l.room, lengths))

    pub laying_next : (part : List ℕ) (long : ℕ) → long ≡ body_length 1 (run_in st (i + 1)) → part ≡ sets (take (length out - at) (drop at out)) 0 (body_bytes 1 (run_in st (i + 1)))
        → Laying st seen₀ out₀ start seen₁ (put_mid at (length out - at) out part) (i + 1) (at + long)
    laying_next part long en ep =
        let d : i + 1 ≡ suc i = omega arith in
        let r : StoredRun = run_in st (suc i) in
        let m : List ℕ = bodies_of (runs_from st (suc i)) in
        let el : long ≡ body_length 1 r = en ∙ ap (λ (x : ℕ). body_length 1 (run_in st x)) d in
        let ew : part ≡ sets (take (length out - at) (drop at out)) 0 (body_bytes 1 r) = ep ∙ ap (λ (x : ℕ). sets (take (length out - at) (drop at out)) 0 (body_bytes 1 (run_in st x))) d in
        let out₁ : List ℕ = put_mid at (length out - at) out part in
        let q : out₁ ≡ sets out at (body_bytes 1 r) = lent out at part (body_bytes 1 r) (omega (arith, l.room)) ew in
        let n : length out₁ ≡ length out = ap length q ∙ length-sets out at (body_bytes 1 r) in
        let u : bodies_of (runs_from st i) ≡ body_bytes 1 r ++ m = ap bodies_of split in
        let g : sets out₁ (at + long) m ≡ sets out at (body_bytes 1 r ++ m) = sets_then out out₁ (sets out₁ (at + long) m) at long (body_bytes 1 r) m (length-body 1 r ∙ sym el) q refl in
        rw d (record { marks = b.marks; wide = w ∙ l.wide; room = omega (arith, l.room, lengths, el, n); rest = g ∙ ap (sets out at) (sym u) ∙ l.rest; long = n ∙ l.long })

-- ---- the contents

pub record Listing (st : State) (seen₀ out₀ : List ℕ) (start : ℕ) (seen out : List ℕ) (i entry at : ℕ) : Type 0 where
  pub marks : Marks st i seen
  pub wide : length seen ≡ length seen₀
  pub places : entry + length (runs_from st i) * 8 ≤ length out
  pub room : at + length (bodies_of (runs_from st i)) ≤ length out
  pub rest : sets out entry (entries_of at (runs_from st i)) ≡ sets out₀ 8 (entries_of start (runs_in st))
  pub long : length out ≡ length out₀

pub listing_first : (st : State) (seen out : List ℕ) (start : ℕ) → Marks st 0 seen → FitsAll st start out → Listing st seen out start seen out 0 8 start
listing_first st seen out start m f = record { marks = m; wide = refl; places = rw (past_all st) (omega (arith, f.contents, f.bodies)); room = rw (past_all st) f.bodies; rest = rw (past_all st); long = refl }

module _ {st : State} {seen₀ out₀ : List ℕ} {start : ℕ} {seen out : List ℕ} {i entry at : ℕ} (l : Listing st seen₀ out₀ start seen out i entry at) (h : i < st.head.elems.extent) (seen₁ : List ℕ) (w : length seen₁ ≡ length seen) where
  pub listing_skip : Begins st i false seen₁ → Listing st seen₀ out₀ start seen₁ out (i + 1) entry at
  listing_skip b =
      let d : i + 1 ≡ suc i = omega arith in
      let e : runs_from st i ≡ runs_from st (suc i) = past-step st i false h b.lowest in
      rw d (record {
        marks = b.marks;
        wide = w ∙ l.wide;
        places = subst (λ (rs : List StoredRun). entry + length rs * 8 ≤ length out) e l.places;
        room = subst (λ (rs : List StoredRun). at + length (bodies_of rs) ≤ length out) e l.room;
        rest = subst (λ (rs : List StoredRun). sets out entry (entries_of at rs) ≡ sets out₀ 8 (entries_of start (runs_in st))) e l.rest;
        long = l.long;
      })

  module _ (b : Begins st i true seen₁) where
    parts : runs_from st i ≡ run_in st (suc i) ∷ runs_from st (suc i)
    parts = past-step st i true h b.lowest

    sums : length (bodies_of (runs_from st i)) ≡ body_length 1 (run_in st (suc i)) + length (bodies_of (runs_from st (suc i)))
    sums = ap (λ (rs : List StoredRun). length (bodies_of rs)) parts ∙ length-append (body_bytes 1 (run_in st (suc i))) (bodies_of (runs_from st (suc i))) ∙ rw (length-body 1 (run_in st (suc i)))

    one_more : length (runs_from st i) ≡ suc (length (runs_from st (suc i)))
    one_more = ap length parts

    pub listing_room : at + body_length 1 (run_in st (i + 1)) ≤ length out
    listing_room = let d : i + 1 ≡ suc i = omega arith in rw d (omega (arith, l.room, sums))

    pub listing_place : entry + 8 ≤ length out
    listing_place = omega (arith, l.places, one_more)

    pub listing_next : (long : ℕ) (out₁ out₂ : List ℕ) → long ≡ body_length 1 (run_in st (i + 1)) → out₁ ≡ sets out entry (little 4 at) → out₂ ≡ sets out₁ (entry + 4) (little 4 long)
        → Listing st seen₀ out₀ start seen₁ out₂ (i + 1) (entry + 8) (at + long)
    unfolding entries entry_bytes
    listing_next long out₁ out₂ en one two =
        let d : i + 1 ≡ suc i = omega arith in
        let r : StoredRun = run_in st (suc i) in
        let el : long ≡ body_length 1 r = en ∙ ap (λ (x : ℕ). body_length 1 (run_in st x)) d in
        let m : List ℕ = entries_of (at + body_length 1 r) (runs_from st (suc i)) in
        let a : List ℕ = little 4 at in
        let c : List ℕ = little 4 long in
        let both : out₂ ≡ sets out entry (a ++ c) = sets_then out out₁ out₂ entry 4 a c (length-little 4 at) one two in
        let u : entries_of at (runs_from st i) ≡ (a ++ little 4 (body_length 1 r)) ++ m = ap (entries_of at) parts in
        let u' : (a ++ c) ++ m ≡ (a ++ little 4 (body_length 1 r)) ++ m = ap (λ (y : ℕ). (a ++ little 4 y) ++ m) el in
        let eight : length (a ++ c) ≡ 8 = omega (arith, length-append a c, length-little 4 at, length-little 4 long) in
        let g : sets out₂ (entry + 8) m ≡ sets out entry ((a ++ c) ++ m) = sets_then out out₂ (sets out₂ (entry + 8) m) entry 8 (a ++ c) m eight both refl in
        let n : length out₂ ≡ length out = ap length both ∙ length-sets out entry (a ++ c) in
        rw d (record {
          marks = b.marks;
          wide = w ∙ l.wide;
          places = omega (arith, l.places, one_more, n);
          room = omega (arith, l.room, sums, el, n);
          rest = ap (λ (y : ℕ). sets out₂ (entry + 8) (entries_of (at + y) (runs_from st (suc i)))) el ∙ g ∙ ap (sets out entry) (u' ∙ sym u) ∙ l.rest;
          long = n ∙ l.long;
        })

pub listing_last : {st : State} {seen₀ out₀ : List ℕ} {start : ℕ} {seen out : List ℕ} {i entry at : ℕ} → Listing st seen₀ out₀ start seen out i entry at → st.head.elems.extent ≤ i → out ≡ sets out₀ 8 (entries_of start (runs_in st))
unfolding entries
listing_last {st} {seen₀} {out₀} {start} {seen} {out} {i} {entry} {at} l h = subst (λ (rs : List StoredRun). sets out entry (entries_of at rs) ≡ sets out₀ 8 (entries_of start (runs_in st))) (past_end st i h) l.rest

-- what was found at a slot, by the test that passed
pub found_as : {st : State} {k : ℕ} {seen : List ℕ} (r t : Bool) → r ≡ t → Begins st k r seen → Begins st k t seen
found_as {st} {k} {seen} r t e b = subst (λ (y : Bool). Begins st k y seen) e b
