-- A list of refusals in their order: the first that is due is given.
use Rattle.std.specs.Prelude.{ℕ, Bool, cond, List, [], ◌∷◌, Result, Ok, Err}
use Rattle.common.specs.Answers.{no}
use Rattle.common.specs.declared.Refusal.{Refusal}

-- what is decided: nothing is refused, or it is with a number
abbrev pub Verdict : Type 0
Verdict = Result Unit Refusal

-- a row of the table "Numbers of refusal": its number, and whether it is due, "given exactly when"
pub record Row : Type 0 where
  pub number : ℕ
  pub due : Bool

-- a row by its two parts
abbrev pub given : ℕ → Bool → Row
given number due = record { number = number; due = due }

-- what a list of rows decides
abbrev pub first : List Row → Verdict
first [] = Ok tt
first (r ∷ rs) = cond r.due (Err (no r.number)) (first rs)
