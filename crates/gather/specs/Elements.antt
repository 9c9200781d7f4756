-- What the element side asks and leaves: each ring is copied to the scratch from its lowest slot, and the rows go back.
use Rattle.std.specs.Prelude.{◌≡◌, ◌≢◌, List, ◌++◌, ℕ, suc, ◌+◌, ◌*◌, ◌≤◌, ◌<◌, length, get_or, replicate, drop}
use Rattle.rules.specs.declared.Head.{Head}
use Rattle.rules.specs.Tables.{frame_width, header_width, cell, generation_of, payload_of, class_of, previous_of, next_of, bytes_of, count_of, State, state_of}
use Rattle.rules.specs.Runs.{frame}
use Rattle.rules.specs.Calls.{Ready}
use Rattle.rules.specs.Compress.{canonical_frames, place_of}
use Rattle.slots.specs.Asked.{Within}
use Rattle.copies.specs.Parts.{Holds, Copiable, Copied}

-- one slot of the scan, with `t` frames copied by then
pub record Visitable (e sh sc : List ℕ) (s t : ℕ) : Type 0 where
  pub frame : Within frame_width e s
  pub header : generation_of e s ≢ 0 → Within header_width sh (class_of e s)
  pub ring : generation_of e s ≢ 0 → Copiable e sc s t (count_of sh (class_of e s))

pub data Visit (e sh sc : List ℕ) (s t g : ℕ) (e' sc' : List ℕ) (r : ℕ) : Type 0 where
  passed : generation_of e s ≡ 0 → e' ≡ e → sc' ≡ sc → r ≡ t → Visit e sh sc s t g e' sc' r
  met : generation_of e s ≢ 0 → Copied e sc s t (count_of sh (class_of e s)) (count_of sh (class_of e s)) g e' sc' → r ≡ t + count_of sh (class_of e s) → Visit e sh sc s t g e' sc' r

-- a ready state, and a row for each frame: of the scratch, or of the table that the frames go to
pub record Gatherable (h : Head) (e s sc : List ℕ) : Type 0 where
  pub ready : Ready (state_of h e s)
  pub scratch : h.elems.live * frame_width ≤ length sc

-- a ready state, and a scratch row for each element slot
pub record Enough (h : Head) (e s sc : List ℕ) : Type 0 where
  pub ready : Ready (state_of h e s)
  pub scratch : h.elems.capacity * frame_width ≤ length sc

-- the frame of slot `x` where it goes, with its own class still
abbrev pub carried_frame : State → (g x : ℕ) → List ℕ
carried_frame st g x =
    let e = st.elems in
    frame g (payload_of e x) (class_of e x) (place_of (canonical_frames st) (previous_of e x)) (place_of (canonical_frames st) (next_of e x)) (bytes_of e x)

-- the frame at place `u` of the canonical order stands in slot `suc u`
abbrev pub Moved : State → (g : ℕ) → List ℕ → (u : ℕ) → Type 0
Moved st g t u = Holds frame_width t (suc u) (carried_frame st g (get_or (canonical_frames st) u 0))

-- all slots are looked at, and `n` frames copied
pub record Gathered (st : State) (sc₀ : List ℕ) (g : ℕ) (e sc : List ℕ) (n : ℕ) : Type 0 where
  pub all : n ≡ length (canonical_frames st)
  pub long : length e ≡ length st.elems
  -- past the extent the table is zero still
  pub past : (j : ℕ) → st.head.elems.extent * frame_width ≤ j → get_or e j 0 ≡ 0
  pub frames : (u : ℕ) → u < n → Moved st g sc u
  pub still : (f s : ℕ) → f < frame_width → n < s → cell frame_width sc f s ≡ cell frame_width sc₀ f s
  pub wide : length sc ≡ length sc₀

-- the frames stand in their order, with their own classes still, nothing past them; the scratch is zero
pub record Regrouped (st : State) (sc₀ : List ℕ) (g : ℕ) (e sc : List ℕ) : Type 0 where
  pub long : length e ≡ length st.elems
  pub frames : (u : ℕ) → u < length (canonical_frames st) → Moved st g e u
  pub past : (j : ℕ) → length (canonical_frames st) * frame_width ≤ j → get_or e j 0 ≡ 0
  pub scratch : sc ≡ replicate (st.head.elems.capacity * frame_width) 0 ++ drop (st.head.elems.capacity * frame_width) sc₀
