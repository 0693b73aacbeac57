-- The words of a rule of a well-formed table, cut out by the index.
use Rattle.std.specs.Prelude.{ℕ, ◌<◌, List, ◌≡◌, length}
use Rattle.std.proofs.Common.{sym, ap, ◌∙◌}
use Rattle.semantics.specs.Table.{sizes_of, numbers_of, atom_words_of, rule_words, rule_of, table_of, rule_at}
use Rattle.semantics.specs.Answers.{table_verdict}
use Rattle.semantics.specs.declared.Sizes.{Sizes}
use Rattle.semantics.specs.declared.Verdict.TheVariants.{Allowed}
use Rattle.wellformed.specs.Tables.{WellFormed, well-formed, numbers-length, words-length, numbers-rise, RuleFits, rule_fits, rule_at-table_of}
use Rattle.table.specs.Index.{Starts, Cut, cut, starts-within, starts-cut}

module _ (t starts : List ℕ) (r : ℕ) (v : table_verdict t ≡ Allowed) (l : r < (sizes_of t).rules) (s : Starts (numbers_of t) (sizes_of t).rules starts) where
  good : WellFormed t
  good = well-formed t v

  module _ {ws : List ℕ} (ew : ws ≡ atom_words_of t) where
    pub rule-within : Cut starts r (length ws)
    rule-within =
        rw ew
        (starts-within s (length (atom_words_of t)) good.sizes.rules (numbers-length t good.sizes ∙ sym (words-length t good.sizes)) r l)

    rule-cut : {xs : List ℕ} → xs ≡ cut starts r ws → xs ≡ rule_words r (numbers_of t) (atom_words_of t)
    rule-cut e =
        e ∙ ap (cut starts r) ew ∙ sym (starts-cut s r (atom_words_of t) l (numbers-rise (sizes_of t).rules (numbers_of t) good.numbers))

    module _ {z : Sizes} {xs : List ℕ} (ez : z ≡ sizes_of t) (ex : xs ≡ cut starts r ws) where
      pub cut_fits : RuleFits z xs
      cut_fits = rw (ez, rule-cut ex) (rule_fits (sizes_of t) (rule_words r (numbers_of t) (atom_words_of t)) (good.each r l))

      pub cut-rule : rule_of z xs ≡ rule_at (table_of t) r
      cut-rule = rw (ez, rule-cut ex) (sym (rule_at-table_of t r l))
