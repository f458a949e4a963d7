-- What is read behind a statement.
use Rattle.std.proofs.Common.{◌≡◌, ℕ, List, Some, None, Ok, Err, refl}
use Rattle.pim_asm.specs.Assembly.{Body, done, missed, after}
use Rattle.pim_asm.specs.Names.{known_cell}
use Rattle.pim_asm.specs.Statements.{Statement, statement_of}

module _ (b : Body) (n : ℕ) (word : List ℕ) (ws : List (List ℕ)) where
  -- words that are no statement
  pub missed_is : statement_of (known_cell b.names) word ws ≡ None → after b n word ws ≡ Err (missed n word ws)
  missed_is none = rw none refl

  -- a statement that may be done
  pub done_is : (s : Statement) (next : Body) → statement_of (known_cell b.names) word ws ≡ Some s → done b s ≡ Some next → after b n word ws ≡ Ok next
  done_is s next some may = rw (some, may) refl
