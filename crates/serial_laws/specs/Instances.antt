-- The facts hold of something: 01's cases (a) and (d), with a member for each move. In (a) the joining reaction names the member of the larger id.
use Rattle.std.specs.Prelude.{ℕ, List, [], ◌∷◌, map, ◌≡◌, refl}
use Rattle.lists.specs.Each.{All}
use Rattle.semantics.specs.Table.{table_sizes_ok, numbers_ok, atom_ok, rule_ok, rules_ok, table_contents_ok, rule_of, table_of}
use Rattle.semantics.specs.State.{state_of, state_sizes_ok, entry_ok, entries_ok}
use Rattle.semantics.specs.Move.{move_ok, move_of, reacted, allowed, applied, step, step_words}
use Rattle.semantics.specs.Move as Move
use Rattle.semantics.specs.Log.{log_sizes_ok, run}
use Rattle.semantics.specs.Serial.{after, acts}
use Rattle.semantics.specs.Answers.{table_verdict, state_own_verdict, state_verdict, line_ceiling}
use Rattle.semantics.specs.Cases.{two_lot, start, log_a, log_d, log_of}
use Rattle.words.specs.Origin.{first_product, maker_in, index_in}
use Rattle.serializability.specs.Instances.{end_of_log}
use Rattle.serial_laws.specs.Order.{arranged_by}
use Rattle.serial_laws.specs.Keys.{Told}
use Rattle.serial_laws.specs.Facts.{acts_in, order_in, SerialFacts, serial-facts}

abbrev members : List ℕ
members = map first_product (0 ∷ 1 ∷ 0 ∷ 1 ∷ 1 ∷ 0 ∷ [])

abbrev places_by : List (List ℕ) → List ℕ
places_by ms = map (λ a. a.place) (order_in two_lot start (log_of ms))

facts-a : SerialFacts line_ceiling two_lot start (log_of log_a)
unfolding end_of_log two_lot start log_a table_sizes_ok numbers_ok atom_ok rule_ok rules_ok table_contents_ok rule_of table_of state_of state_sizes_ok
    entry_ok entries_ok move_ok move_of reacted Move.ended allowed applied step step_words log_sizes_ok run table_verdict state_own_verdict state_verdict
facts-a = serial-facts line_ceiling two_lot start (log_of log_a) (end_of_log log_a) refl refl refl refl refl refl

told-a : All (Told members) (acts_in two_lot start (log_of log_a))
unfolding two_lot start log_a rule_of table_of state_of move_of reacted Move.ended allowed applied step after acts maker_in index_in
told-a = (λ _. refl, (λ _. refl, (λ _. refl, (λ _. refl, (λ _. refl, (λ _. refl, tt))))))

pub order-a : places_by log_a ≡ 0 ∷ 1 ∷ 2 ∷ 3 ∷ 4 ∷ 5 ∷ []
unfolding two_lot start log_a rule_of table_of state_of move_of reacted Move.ended allowed applied step after acts arranged_by maker_in
order-a = facts-a.order-places members told-a

facts-d : SerialFacts line_ceiling two_lot start (log_of log_d)
unfolding end_of_log two_lot start log_d table_sizes_ok numbers_ok atom_ok rule_ok rules_ok table_contents_ok rule_of table_of state_of state_sizes_ok
    entry_ok entries_ok move_ok move_of reacted Move.ended allowed applied step step_words log_sizes_ok run table_verdict state_own_verdict state_verdict
facts-d = serial-facts line_ceiling two_lot start (log_of log_d) (end_of_log log_d) refl refl refl refl refl refl

told-d : All (Told members) (acts_in two_lot start (log_of log_d))
unfolding two_lot start log_d rule_of table_of state_of move_of reacted Move.ended allowed applied step after acts maker_in index_in
told-d = (λ _. refl, (λ _. refl, (λ _. refl, (λ _. refl, (λ _. refl, (λ _. refl, tt))))))

pub order-d : places_by log_d ≡ 1 ∷ 3 ∷ 4 ∷ 0 ∷ 2 ∷ 5 ∷ []
unfolding two_lot start log_d rule_of table_of state_of move_of reacted Move.ended allowed applied step after acts arranged_by maker_in
order-d = facts-d.order-places members told-d
