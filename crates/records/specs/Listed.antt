-- What a call lists of its inputs: the index and the refusal's number of each that it did not take, in two lent slices.
use Rattle.std.specs.Prelude.{ℕ, cond, List, [], ◌∷◌, map, eqb}

-- [4]: 'its index and number are listed in order'; [10]: 'a list of what it dropped: block index and refusal number'
pub record Entry : Type 0 where
  pub index : ℕ
  pub number : ℕ

-- of input i with this number; 0 is that of an input that was taken
abbrev pub entry : ℕ → ℕ → List Entry
entry i n = cond (eqb n 0) [] (record { index = i; number = n } ∷ [])

abbrev pub indices_of : List Entry → List ℕ
indices_of es = map (λ e. e.index) es

abbrev pub numbers_of : List Entry → List ℕ
numbers_of es = map (λ e. e.number) es
