-- Ticket 3's one statement over both compressions, field by field: for each, two states or a renaming that breaks it.
use Prim.Native.Nat.{ℕ}
use native.Mathlib.Omega.{arith}
use mathlib.Core.Path.{◌≡◌, refl, ap, subst}
use mathlib.Core.List.{List, ◌++◌}
use lib.ListN.{get_or}
use Rattle.rules.specs.Tables.{frame_width, header_width, cell, is_live, State}
use Rattle.rules.specs.Sound.{Frame, Header}
use Rattle.rules.specs.Renaming.{SameRuns}
use Rattle.rules.proofs.Cases.{pool, at, e, ez, s, m, mz, zeros}

-- two runs: the ring 1, 3, 2, and the frame 4 alone
abbrev runs : (first second third fourth : List ℕ) → (one two : List ℕ) → State
runs a b c d h k = at (pool 4 4 0 4) (pool 3 2 0 2) 1 (a ++ b ++ c ++ d) (h ++ k ++ zeros header_width 1)

abbrev base : State
base = runs (e 1 10 1 2 3) (e 1 11 1 3 1) (e 1 12 1 1 2) (e 1 20 2 4 4) (s 3 100 0) (s 1 200 0)

-- every slot keeps its number
abbrev same : ℕ → ℕ
same s = s

-- frames and headers: one gone, two that become one, one come from nowhere
abbrev gone : State
gone = at (pool 4 4 4 3) (pool 3 2 2 1) 1 (e 1 10 1 2 3 ++ e 1 11 1 3 1 ++ e 1 12 1 1 2 ++ zeros frame_width 1) (s 3 100 0 ++ zeros header_width 2)

pub frame-gone : SameRuns base gone same same → ⊥
unfolding cell is_live
frame-gone S = S.frame 4 tt

pub two_in_one : SameRuns base base (λ s. 1) same → ⊥
unfolding cell is_live
two_in_one S = let z : ◌≡◌ {A = ℕ} 1 2 = S.own 1 2 tt tt refl in omega arith

pub frame_from_nowhere : SameRuns gone base same same → ⊥
unfolding cell is_live
frame_from_nowhere S = let t = S.each 4 tt in subst (λ (s : ℕ). Frame gone s) t.2 t.1

pub header-gone : SameRuns base gone same same → ⊥
unfolding cell is_live
header-gone S = S.header 2 tt

pub two_headers_in_one : SameRuns base base same (λ c. 1) → ⊥
unfolding cell is_live
two_headers_in_one S = let z : ◌≡◌ {A = ℕ} 1 2 = S.own_header 1 2 tt tt refl in omega arith

pub header_from_nowhere : SameRuns gone base same same → ⊥
unfolding cell is_live
header_from_nowhere S = let t = S.each_header 2 tt in subst (λ (c : ℕ). Header gone c) t.2 t.1

-- a frame in another run
pub other-run : SameRuns base (runs (e 1 10 2 2 3) (e 1 11 1 3 1) (e 1 12 1 1 2) (e 1 20 2 4 4) (s 3 100 0) (s 1 200 0)) same same → ⊥
unfolding cell is_live
other-run S = let z : ◌≡◌ {A = ℕ} 2 1 = S.class 1 tt in omega arith

-- the ring the other way round
abbrev turned : State
turned = runs (e 1 10 1 3 2) (e 1 11 1 1 3) (e 1 12 1 2 1) (e 1 20 2 4 4) (s 3 100 0) (s 1 200 0)

pub other-ring : SameRuns base turned same same → ⊥
unfolding cell is_live
other-ring S = let z : ◌≡◌ {A = ℕ} 2 3 = ap (λ (xs : List ℕ). get_or xs 1 0) (S.rings 1 tt) in omega arith

pub other-next : SameRuns base turned same same → ⊥
unfolding cell is_live
other-next S = let z : ◌≡◌ {A = ℕ} 2 3 = S.next 1 tt in omega arith

pub other-previous : SameRuns base turned same same → ⊥
unfolding cell is_live
other-previous S = let z : ◌≡◌ {A = ℕ} 3 2 = S.previous 1 tt in omega arith

-- what frame and header hold
pub other-payload : SameRuns base (runs (e 1 10 1 2 3) (e 1 11 1 3 1) (e 1 13 1 1 2) (e 1 20 2 4 4) (s 3 100 0) (s 1 200 0)) same same → ⊥
unfolding cell is_live
other-payload S = let z : ◌≡◌ {A = ℕ} 13 12 = S.payload 3 tt in omega arith

pub other-count : SameRuns base (runs (e 1 10 1 2 3) (e 1 11 1 3 1) (e 1 12 1 1 2) (e 1 20 2 4 4) (s 3 100 0) (s 2 200 0)) same same → ⊥
unfolding cell is_live
other-count S = let z : ◌≡◌ {A = ℕ} 2 1 = S.count 2 tt in omega arith

pub other-value : SameRuns base (runs (e 1 10 1 2 3) (e 1 11 1 3 1) (e 1 12 1 1 2) (e 1 20 2 4 4) (s 3 100 0) (s 1 201 0)) same same → ⊥
unfolding cell is_live
other-value S = let z : ◌≡◌ {A = ℕ} 201 200 = S.value 2 tt in omega arith

pub other-mark : SameRuns base (runs (e 1 10 1 2 3) (e 1 11 1 3 1) (e 1 12 1 1 2) (e 1 20 2 4 4) (s 3 100 0) (m 1 200 1)) same same → ⊥
unfolding cell is_live
other-mark S = let z : ◌≡◌ {A = ℕ} 1 0 = S.mark 2 tt in omega arith

pub other-size : SameRuns base (runs (e 1 10 1 2 3) (ez 1 11 1 3 1 5) (e 1 12 1 1 2) (e 1 20 2 4 4) (s 3 100 0) (s 1 200 0)) same same → ⊥
unfolding cell is_live
other-size S = let z : ◌≡◌ {A = ℕ} 5 0 = S.size 2 tt in omega arith

pub other-total : SameRuns base (runs (e 1 10 1 2 3) (e 1 11 1 3 1) (e 1 12 1 1 2) (e 1 20 2 4 4) (s 3 100 0) (mz 1 200 0 5)) same same → ⊥
unfolding cell is_live
other-total S = let z : ◌≡◌ {A = ℕ} 5 0 = S.total 2 tt in omega arith
