-- What a read line means to Script.
use Rattle.std.specs.Prelude.{ℕ, ◌*◌, ◌≡◌, List, [], get_or, replicate, Option, Some, None, if◌then◌else◌, ◌==◌}
use Rattle.rules.specs.Tables.{State}
use Rattle.rules.specs.Refusals.{Outcome}
use Rattle.rules.specs.Drains.{key_width}
use Rattle.rules.specs.Calls.{Call, new_run, insert, union, list, remove, check, step}
use Rattle.rules.specs.Script.{capacity, numbers, Form, forms, Reply, obeyed, key_text, union_text, ring_text, remove_text, refused_text, malformed}
use Rattle.words.specs.declared.read.Line.{Line}
use Rattle.words.specs.declared.read.Line.TheVariants.{NewRun, Insert, Union, List as ListOf, Remove}

-- a call's reply, with what is printed if it is accepted
abbrev pub answered : State → (print : Outcome → List ℕ) → Call → Reply
answered st print call =
    let o = step st (replicate (capacity * key_width) 0) call in
    record { state = o.state; printed = if o.said.number == 0 then print o else refused_text o.said.number o.said.values }

-- the reply to what a line asks for: where it asks for nothing, it is malformed
abbrev pub reply_of : State → Option Line → Reply
reply_of st (Some (NewRun payload value size)) = answered st key_text (new_run payload value size)
reply_of st (Some (Insert target payload size)) = answered st key_text (insert target payload size)
reply_of st (Some (Union first second)) = answered st union_text (union first second)
reply_of st (Some (ListOf key)) = answered st ring_text (list key)
reply_of st (Some (Remove key)) = answered st remove_text (remove key)
reply_of st None = malformed st

-- Script's forms, from 0
abbrev pub form : ℕ → Form
form i = get_or forms i (record { letter = ""; mosts = []; call = λ v. check; print = λ o. [] })

-- the numbers of some words, as those of the form `i`, mean what was read
abbrev pub Means : ℕ → (words : List (List ℕ)) → Option Line → Type 0
Means i words read = (st : State) → obeyed st (form i) (numbers (form i).mosts words) ≡ reply_of st read
