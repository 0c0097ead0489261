-- what is promised of the definitions
mod PercentageLaws
mod TimeLaws
mod MarginLaws
mod PairLaws
mod Examples
mod Unique
-- what these rest on
mod CondLaws
mod AnswerLaws
