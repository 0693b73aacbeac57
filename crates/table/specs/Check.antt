-- What the check of a table answers.
use Rattle.std.specs.Prelude.{ℕ, List, ◌≡◌, length}
use Rattle.semantics.specs.Table.{sizes_of, numbers_of}
use Rattle.semantics.specs.Answers.{table_verdict}
use Rattle.semantics.specs.declared.Verdict.{Verdict}
use Rattle.semantics.specs.declared.Verdict.TheVariants.{Allowed}
use Rattle.table.specs.Index.{Starts}

-- the verdict v, with an index that is right where it is Allowed and of no use after a refusal
pub record CheckedAs (t : List ℕ) (v : Verdict) (index : List ℕ) : Type 0 where
  pub verdict : v ≡ table_verdict t
  pub room : length index ≡ 65
  pub starts : table_verdict t ≡ Allowed → Starts (numbers_of t) (sizes_of t).rules index
