-- What the exchange's steps answer.
use Rattle.std.specs.Prelude.{ℕ, List, map, if◌then◌else◌}
use Rattle.rules.specs.declared.Refusal.TheVariants.{SameClass}
use Rattle.rules.specs.Tables.{class_of, value_of, State, with_shared, forgetting}
use Rattle.rules.specs.Refusals.{Ruling, refuse, answer}
use Rattle.rules.specs.Exchange.{all_differ, valued}

-- Rules 13: the exchange on the slots of live keys
unfoldable pub exchange_at : State → (slots values : List ℕ) → Ruling
exchange_at st xs values =
    let classes = map (class_of st.elems) xs in
    if all_differ classes
    then answer (map (value_of st.shared) classes) (forgetting (with_shared st (valued st.shared classes values)))
    else refuse SameClass
