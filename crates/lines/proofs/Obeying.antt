-- Script: a call made at the inner door, and its answer printed, is a line obeyed.
use Rattle.std.specs.Prelude.{Result, Ok, Err, if◌then◌else◌}
use Prim.Native.Nat.{ℕ, zero, suc, ◌+◌, ◌*◌, ◌<◌}
use mathlib.Core.Path.{◌≡◌, refl, sym, ap, ◌∙◌}
use mathlib.Core.Bool.{Bool, true, false}
use mathlib.Core.List.{List, [], ◌∷◌, ◌++◌, map}
use native.Mathlib.Omega.{arith}
use lib.ListN.{length, take, drop, replicate, length-append, length-replicate}
use lib.Seq.{take_at}
use Rattle.rules.specs.declared.Head.{Head}
use Rattle.rules.specs.declared.Key.{Key}
use Rattle.rules.specs.declared.Cause.{Cause}
use Rattle.rules.specs.declared.Refusal.TheVariants.{Short}
use Rattle.rules.specs.Notation.{◌<?◌, along, flat}
use Rattle.rules.specs.Tables.{next_of, State, state_of, found, key_at, size_at}
use Rattle.rules.specs.Refusals.{Ruling, refuse, accept, Said, Outcome, outcome, when_live}
use Rattle.rules.specs.Runs.{key_values}
use Rattle.rules.specs.Drains as drains
use Rattle.rules.specs.Drains.{key_width, ring, is_short}
use Rattle.rules.specs.Keeping.{effect}
use Rattle.rules.specs.Calls.{Call, list, ruling, step, Ready}
use Rattle.rules.specs.Answers.{leaves}
use Rattle.rules.specs.Script.{capacity, ring_text}
use Rattle.rules.proofs.Laws.Kept.{Recalled, kept}
use Rattle.told.specs.declared.answers.Obeyed.{Obeyed}
use Rattle.told.specs.Put.{Put}
use Rattle.told.specs.Texts.{printed, text_of, Places}
use Rattle.told.specs.Told.{Told}
use Rattle.told.proofs.Puts.{put_same}
use Rattle.words.specs.Lines.{answered}
use Rattle.lines.specs.Obeys.{reply_most, Obeys}

-- what Script lends
abbrev lends : List ℕ
lends = replicate (capacity * key_width) 0

-- what is said, and the state, do not go by what is lent
outcome-said : (st : State) (l m : List ℕ) (r : Ruling) → (outcome st l r).said ≡ (outcome st m r).said
outcome-said st l m (refuse r) = refl
outcome-said st l m (accept values over next places) = refl

outcome-state : (st : State) (l m : List ℕ) (r : Ruling) → (outcome st l r).state ≡ (outcome st m r).state
outcome-state st l m (refuse r) = refl
outcome-state st l m (accept values over next places) = refl

-- ---- a call that needs no output buffer, whose text goes by what is said

module _ (st : State) (R : Ready st) (print : Outcome → List ℕ) (call : Call)
    (blind : (o : Outcome) → printed print o ≡ text_of print o.said []) (same : ruling st lends call ≡ ruling st [] call) (plain : Recalled (effect call) st) where
  said-alike : (step st [] call).said ≡ (step st lends call).said
  said-alike = outcome-said st [] lends (ruling st [] call) ∙ ap (λ (r : Ruling). (outcome st lends r).said) (sym same)

  state-alike : (step st [] call).state ≡ (step st lends call).state
  state-alike = outcome-state st [] lends (ruling st [] call) ∙ ap (λ (r : Ruling). (outcome st lends r).state) (sym same)

  pub told : (head : Head) (elems shared : List ℕ) (said : Said) {before after : List ℕ} {at most : ℕ} {o : Obeyed}
      → leaves head elems shared [] said ≡ step st [] call → Told print said head before at most after o → most < reply_most
      → Obeys (answered st print call) (state_of o.head elems shared) before at after o.next
  told head elems shared said {o = o} e t m =
      let s : state_of o.head elems shared ≡ (step st lends call).state =
      ap (λ (h : Head). state_of h elems shared) t.head ∙ ap (λ (u : Outcome). u.state) e ∙ state-alike in
      record {
        same = s;
        ready = rw s (kept st R lends call plain);
        put = put_same (ap (λ (u : Said). text_of print u []) (ap (λ (u : Outcome). u.said) e ∙ said-alike) ∙ sym (blind (step st lends call))) t.put;
        within = omega (arith, t.within);
      }

-- ---- list

length-along : (f : ℕ → ℕ) (n a : ℕ) → length (along f n a) ≡ n
length-along f zero a = refl
length-along f (suc n) a = ap suc (length-along f n (f a))

length-keys : (st : State) (xs : List ℕ) → length (flat (map (λ s. key_values (key_at st s)) xs)) ≡ length xs * 2
length-keys st [] = refl
length-keys st (x ∷ xs) = omega (arith, length-keys st xs)

module _ (st : State) where
  keys_of : ℕ → List ℕ
  keys_of x = flat (map (λ s. key_values (key_at st s)) (ring st x))

  keys-long : (x : ℕ) → length (keys_of x) ≡ size_at st x * key_width
  unfolding keys_of
  keys-long x = length-keys st (ring st x) ∙ ap (λ (n : ℕ). n * 2) (length-along (next_of st.elems) (size_at st x) x)

  rule : List ℕ → ℕ → Ruling
  rule l x = if is_short l (size_at st x) key_width then refuse Short else accept (size_at st x ∷ []) false st (keys_of x)

  pub record Alike (r s : Ruling) (l m : List ℕ) : Type 0 where
    pub said : (outcome st l r).said ≡ (outcome st m s).said
    pub state : (outcome st l r).state ≡ (outcome st m s).state
    pub text : printed ring_text (outcome st l r) ≡ printed ring_text (outcome st m s)
    pub places : Places (outcome st l r).said (outcome st l r).lent

  alike : (l m : List ℕ) → length l ≡ length m → (x : ℕ) → Alike (rule l x) (rule m x) l m
  unfolding rule
  alike l m e x = rw e (go (length m <? size_at st x * key_width))
    where
      taken : (k : List ℕ) → take (size_at st x * key_width) (keys_of x ++ drop (length (keys_of x)) k) ≡ keys_of x
      taken k = take_at (keys_of x) (drop (length (keys_of x)) k) (size_at st x * key_width) (keys-long x)

      either : Bool → Ruling
      either t = if t then refuse Short else accept (size_at st x ∷ []) false st (keys_of x)

      go : (t : Bool) → Alike (either t) (either t) l m
      go true = record { said = refl; state = refl; text = refl; places = λ e. absurd (omega (arith, e)) }
      go false =
          record {
            said = refl;
            state = refl;
            text = rw (taken l, taken m);
            places = λ e. simp length-append (omega (arith, keys-long x));
          }

  pub list-alike : (k : Key) (l m : List ℕ) → length l ≡ length m → Alike (ruling st l (list k)) (ruling st m (list k)) l m
  unfolding drains.list rule keys_of
  list-alike k l m e = go (found st k)
    where
      go : (f : Result ℕ Cause) → Alike (when_live f (rule l)) (when_live f (rule m)) l m
      go (Ok x) = alike l m e x
      go (Err cause) = record { said = refl; state = refl; text = refl; places = λ e. absurd (omega (arith, e)) }

pub listed : (st : State) → Ready st → (k : Key) (head : Head) (elems shared keys written : List ℕ) (said : Said) {before after : List ℕ} {at next : ℕ}
    → length keys ≡ capacity * key_width → leaves head elems shared written said ≡ step st keys (list k)
    → Put before at (text_of ring_text said written) after next → next < at + reply_most
    → Obeys (answered st ring_text (list k)) (state_of head elems shared) before at after next
listed st R k head elems shared keys written said n e p m =
    let a = list-alike st k keys lends (n ∙ sym (length-replicate {A = ℕ} (capacity * key_width) 0)) in
    let s : state_of head elems shared ≡ (step st lends (list k)).state = ap (λ (u : Outcome). u.state) e ∙ a.state in
    record {
      same = s;
      ready = rw s (kept st R lends (list k) tt);
      put = put_same (ap (printed ring_text) e ∙ a.text) p;
      within = m;
    }

-- what was listed is within what was lent
pub listed_places : (st : State) (k : Key) (head : Head) (elems shared keys written : List ℕ) (said : Said)
    → leaves head elems shared written said ≡ step st keys (list k) → Places said written
listed_places st k head elems shared keys written said e =
    rw (ap (λ (u : Outcome). u.said) e, ap (λ (u : Outcome). u.lent) e) (list-alike st k keys keys refl).places
