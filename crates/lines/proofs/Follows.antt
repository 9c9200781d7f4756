-- The whole input: what was read and printed so far is what Script says of it, block after block, to the end.
use Rattle.std.specs.Prelude.{if◌then◌else◌, ◌==◌}
use Prim.Native.Nat.{ℕ, ◌≤◌, ◌<◌}
use mathlib.Core.Path.{◌≡◌, refl, sym, ap, ◌∙◌}
use mathlib.Core.Bool.{Bool, true, false}
use mathlib.Core.List.{List, [], ◌∷◌, ◌++◌, append_assoc, append-nil}
use native.Mathlib.Decide.{dec_lt}
use native.Mathlib.Omega.{arith}
use lib.ListN.{length, take}
use lib.Seq.{take_all, take-nil, length-take-le, append_snoc}
use Rattle.rules.specs.Tables.{State}
use Rattle.rules.specs.Script.{line_most, newline, prepend, pieces, Reply, line_reply, without_empty_last, replies, output}
use Rattle.words.specs.Words.{onto}
use Rattle.words.proofs.Pieces.{onto-nothing, pieces-some}
use Rattle.words.proofs.Letters.{line-long}
use Rattle.lines.specs.Obeys.{with_newline, ObeysLine}
use Rattle.lines.specs.Stream.{Holds, Keeps, reached, fresh_state, Follows}
use Rattle.lines.proofs.Gathering.{all_held, put-take}

-- ---- pieces of two texts: the last of the one and the first of the other are one

glue : List (List ℕ) → List (List ℕ) → List (List ℕ)
glue [] qs = qs
glue (p ∷ []) qs = onto p qs
glue (p ∷ p' ∷ ps) qs = p ∷ glue (p' ∷ ps) qs

glue_last : (ls : List (List ℕ)) (p : List ℕ) (qs : List (List ℕ)) → glue (ls ++ p ∷ []) qs ≡ ls ++ onto p qs
unfolding glue
glue_last [] p qs = refl
glue_last (l ∷ []) p qs = refl
glue_last (l ∷ l' ∷ ls) p qs = ap (λ (r : List (List ℕ)). l ∷ r) (glue_last (l' ∷ ls) p qs)

onto_front : (b : ℕ) (p : List ℕ) (qs : List (List ℕ)) → onto (b ∷ p) qs ≡ prepend b (onto p qs)
onto_front b p [] = refl
onto_front b p (q ∷ qs) = refl

glue_prepend : (b : ℕ) (p : List ℕ) (ps qs : List (List ℕ)) → glue (prepend b (p ∷ ps)) qs ≡ prepend b (glue (p ∷ ps) qs)
unfolding glue
glue_prepend b p [] qs = onto_front b p qs
glue_prepend b p (p' ∷ ps) qs = refl

glue_front : (p : List ℕ) (ps qs : List (List ℕ)) → glue ([] ∷ p ∷ ps) qs ≡ [] ∷ glue (p ∷ ps) qs
unfolding glue
glue_front p ps qs = refl

pieces_append : (separator : ℕ) (xs ys : List ℕ) → pieces separator (xs ++ ys) ≡ glue (pieces separator xs) (pieces separator ys)
unfolding pieces glue
pieces_append separator [] ys = sym (onto-nothing separator ys)
pieces_append separator (b ∷ bs) ys = go (b == separator) (pieces_append separator bs ys)
  where
    w : (p : List ℕ) × (ps : List (List ℕ)) × (pieces separator bs ≡ p ∷ ps)
    w = pieces-some separator bs

    go : (t : Bool) → pieces separator (bs ++ ys) ≡ glue (pieces separator bs) (pieces separator ys)
        → (if t then [] ∷ pieces separator (bs ++ ys) else prepend b (pieces separator (bs ++ ys)))
        ≡ glue (if t then [] ∷ pieces separator bs else prepend b (pieces separator bs)) (pieces separator ys)
    go true ih = ap (λ (r : List (List ℕ)). [] ∷ r) ih ∙ rw w.2 (sym (glue_front w.0 w.1 (pieces separator ys)))
    go false ih = ap (prepend b) ih ∙ rw w.2 (sym (glue_prepend b w.0 w.1 (pieces separator ys)))

-- ---- a line more

reached_more : (st : State) (ls : List (List ℕ)) (l : List ℕ) → reached st (ls ++ l ∷ []) ≡ (line_reply (reached st ls) l).state
unfolding reached
reached_more st [] l = refl
reached_more st (k ∷ ls) l = reached_more (line_reply st k).state ls l

replies_more : (st : State) (ls : List (List ℕ)) (l : List ℕ) → replies st (ls ++ l ∷ []) ≡ replies st ls ++ with_newline (line_reply (reached st ls) l)
unfolding reached replies
replies_more st [] l = refl
replies_more st (k ∷ ls) l =
    ap (λ (r : List ℕ). (line_reply st k).printed ++ newline ∷ r) (replies_more (line_reply st k).state ls l)
    ∙ sym (append_assoc (line_reply st k).printed (newline ∷ replies (line_reply st k).state ls) (with_newline (line_reply (reached (line_reply st k).state ls) l)))

-- a line cut past the most bytes of a line is refused as the whole line is
line-cut : (st : State) (n : ℕ) (l : List ℕ) → line_most < n → line_reply st (take n l) ≡ line_reply st l
line-cut st n l h = go (dec_lt n (length l))
  where
    go : Dec (n < length l) → line_reply st (take n l) ≡ line_reply st l
    go (yes m) =
        let e : length (take n l) ≡ n = length-take-le n l (omega arith) in
        line-long st (take n l) (omega arith) ∙ sym (line-long st l (omega arith))
    go (no m) = ap (line_reply st) (take_all n l (omega arith))

-- ---- what follows

-- a block comes
pub follows_block : {past block : List ℕ} {st : State} {out : List ℕ} {fill : ℕ} {line : List ℕ} {held : ℕ} {gone : List ℕ}
    → Follows past [] st out fill line held gone → Follows (past ++ block) block st out fill line held gone
unfolding pieces
follows_block {past} {block} f =
    record {
      lines = f.lines;
      begun = f.begun;
      whole = pieces_append newline past block
          ∙ ap (λ (ps : List (List ℕ)). glue ps (pieces newline block)) (f.whole ∙ ap (λ (p : List ℕ). f.lines ++ p ∷ []) (append-nil f.begun))
          ∙ glue_last f.lines f.begun (pieces newline block);
      state = f.state;
      printed = f.printed;
      holds = f.holds;
    }

-- what stands in the buffer may go out: with what has gone out, it stays the same
pub follows-room : {input left : List ℕ} {st : State} {out : List ℕ} {fill at : ℕ} {line : List ℕ} {held : ℕ} {gone gone' : List ℕ}
    → Follows input left st out fill line held gone → gone' ++ take at out ≡ gone ++ take fill out → Follows input left st out at line held gone'
follows-room f e = record { lines = f.lines; begun = f.begun; whole = f.whole; state = f.state; printed = e ∙ f.printed; holds = f.holds }

-- a part of a line is held, with which a block ends
pub follows_part : {input left : List ℕ} {st : State} {out : List ℕ} {fill : ℕ} {line after : List ℕ} {held r : ℕ} {gone : List ℕ}
    → Follows input left st out fill line held gone → pieces newline left ≡ left ∷ [] → Keeps line held left after r → Follows input [] st out fill after r gone
unfolding pieces
follows_part {left = left} f e k =
    record {
      lines = f.lines;
      begun = f.begun ++ left;
      whole = f.whole ∙ rw e (ap (λ (p : List ℕ). f.lines ++ p ∷ []) (sym (append-nil (f.begun ++ left))));
      state = f.state;
      printed = f.printed;
      holds = k.holds f.begun f.holds;
    }

-- a line is obeyed, whose bytes are held
module _ (st : State) (lines : List (List ℕ)) (bytes gone : List ℕ) (out : List ℕ) (fill : ℕ) (line : List ℕ) (held : ℕ)
    (state : st ≡ reached fresh_state lines) (printed : gone ++ take fill out ≡ replies fresh_state lines) (holds : Holds line held bytes) (long : line_most < length line)
    (st' : State) (after : List ℕ) (next : ℕ) (o : ObeysLine (line_reply st (take held line)) st' out fill after next) (room : next ≤ length out) where
  reply : line_reply st (take held line) ≡ line_reply (reached fresh_state lines) bytes
  reply = ap (line_reply st) holds.same ∙ line-cut st (length line) bytes long ∙ ap (λ (s : State). line_reply s bytes) state

  state_then : st' ≡ reached fresh_state (lines ++ bytes ∷ [])
  state_then = o.same ∙ ap (λ (r : Reply). r.state) reply ∙ sym (reached_more fresh_state lines bytes)

  printed_then : gone ++ take next after ≡ replies fresh_state (lines ++ bytes ∷ [])
  printed_then =
      ap (λ (xs : List ℕ). gone ++ xs) (put-take out after (with_newline (line_reply st (take held line))) fill next o.put room)
      ∙ sym (append_assoc gone (take fill out) (with_newline (line_reply st (take held line))))
      ∙ ap (λ (xs : List ℕ). xs ++ with_newline (line_reply st (take held line))) printed
      ∙ ap (λ (r : Reply). replies fresh_state lines ++ with_newline r) reply
      ∙ sym (replies_more fresh_state lines bytes)

-- a line is held to its end and obeyed: what is left begins a new one
pub follows-line : {input left part rest : List ℕ} {st st' : State} {out out' : List ℕ} {fill next : ℕ} {line after : List ℕ} {held r : ℕ} {gone : List ℕ}
    → Follows input left st out fill line held gone → pieces newline left ≡ part ∷ pieces newline rest → Keeps line held part after r → line_most < length after
    → ObeysLine (line_reply st (take r after)) st' out fill out' next → next ≤ length out → (line' : List ℕ)
    → Follows input rest st' out' next line' 0 gone
follows-line {part = part} {rest} {st} {st'} {out} {out'} {fill} {next} {line} {after} {held} {r} {gone} f e k m o n line' =
    let bytes = f.begun ++ part in
    let h = k.holds f.begun f.holds in
    record {
      lines = f.lines ++ bytes ∷ [];
      begun = [];
      whole = f.whole
          ∙ rw e (sym (append_snoc f.lines bytes (pieces newline rest)))
          ∙ ap (λ (ps : List (List ℕ)). (f.lines ++ bytes ∷ []) ++ ps) (sym (onto-nothing newline rest));
      state = state_then st f.lines bytes gone out fill after r f.state f.printed h m st' out' next o n;
      printed = printed_then st f.lines bytes gone out fill after r f.state f.printed h m st' out' next o n;
      holds = record { within = omega arith; same = sym (take-nil (length line')) };
    }

-- ---- the end

without_empty : (ls : List (List ℕ)) → without_empty_last (ls ++ [] ∷ []) ≡ ls
without_empty [] = refl
without_empty ([] ∷ []) = refl
without_empty ([] ∷ l ∷ ls) = ap (λ (r : List (List ℕ)). [] ∷ r) (without_empty (l ∷ ls))
without_empty ((b ∷ bs) ∷ ls) = ap (λ (r : List (List ℕ)). (b ∷ bs) ∷ r) (without_empty ls)

with_last : (ls : List (List ℕ)) (b : ℕ) (bs : List ℕ) → without_empty_last (ls ++ (b ∷ bs) ∷ []) ≡ ls ++ (b ∷ bs) ∷ []
with_last [] b bs = refl
with_last ([] ∷ []) b bs = refl
with_last ([] ∷ l ∷ ls) b bs = ap (λ (r : List (List ℕ)). [] ∷ r) (with_last (l ∷ ls) b bs)
with_last ((c ∷ cs) ∷ ls) b bs = ap (λ (r : List (List ℕ)). (c ∷ cs) ∷ r) (with_last ls b bs)

-- the input's lines, all but the one begun
module _ {input : List ℕ} {st : State} {out : List ℕ} {fill : ℕ} {line : List ℕ} {held : ℕ} {gone : List ℕ} (f : Follows input [] st out fill line held gone) where
  parts : pieces newline input ≡ f.lines ++ f.begun ∷ []
  unfolding pieces
  parts = f.whole ∙ ap (λ (p : List ℕ). f.lines ++ p ∷ []) (append-nil f.begun)

  -- no line was begun
  pub follows-end : held ≡ 0 → 0 < length line → gone ++ take fill out ≡ output input
  unfolding output
  follows-end z l = f.printed ∙ go f.begun refl
    where
      go : (b : List ℕ) → f.begun ≡ b → replies fresh_state f.lines ≡ replies fresh_state (without_empty_last (pieces newline input))
      go [] e = ap (replies fresh_state) (sym (without_empty f.lines) ∙ ap without_empty_last (ap (λ (p : List ℕ). f.lines ++ p ∷ []) (sym e) ∙ sym parts))
      go (b ∷ bs) e = absurd (omega (arith, ap length e, (all_held line held f.begun f.holds (omega arith)).1))

  -- the last line lacks its newline
  pub follows-last : {st' : State} {out' : List ℕ} {next : ℕ} → 1 ≤ held → line_most < length line
      → ObeysLine (line_reply st (take held line)) st' out fill out' next → next ≤ length out → gone ++ take next out' ≡ output input
  unfolding output
  follows-last {st'} {out'} {next} h m o n =
      printed_then st f.lines f.begun gone out fill line held f.state f.printed f.holds m st' out' next o n ∙ go f.begun refl
    where
      go : (b : List ℕ) → f.begun ≡ b → replies fresh_state (f.lines ++ f.begun ∷ []) ≡ replies fresh_state (without_empty_last (pieces newline input))
      go [] e =
          let z : take (length line) f.begun ≡ [] = rw e (take-nil (length line)) in
          absurd (omega (arith, length-take-le held line f.holds.within, ap length (f.holds.same ∙ z)))
      go (b ∷ bs) e =
          ap (replies fresh_state)
          (ap (λ (p : List ℕ). f.lines ++ p ∷ []) e ∙ sym (with_last f.lines b bs)
          ∙ ap without_empty_last (ap (λ (p : List ℕ). f.lines ++ p ∷ []) (sym e) ∙ sym parts))

-- nothing was read yet
pub follows-start : (out line : List ℕ) → Follows [] [] fresh_state out 0 line 0 []
unfolding pieces reached replies
follows-start out line =
    record { lines = []; begun = []; whole = refl; state = refl; printed = refl; holds = record { within = omega arith; same = sym (take-nil (length line)) } }
