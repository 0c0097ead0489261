-- Document 02, request 12: 'How much work a sheet may cause'.
use Rattle.std.specs.Prelude.{ℕ, zero, suc, ◌+◌, ◌*◌, List, length, Result, Ok, Err}
use Rattle.records.specs.Limits.{most_groups}
use Rattle.records.specs.declared.legs.Leg.{Leg}
use Rattle.spreads.specs.Spreads.{group_of}
use Rattle.spreads.specs.Strikes.{strikes_of}
use Rattle.records.specs.declared.refusals.Refusal.{Refusal}

-- F 1 + .. + F n
unfoldable pub total : ℕ → (ℕ → ℕ) → ℕ
total zero F = 0
total (suc n) F = total n F + F (suc n)

-- 'one for each leg of a group and each distinct strike of that group'
unfoldable pub values_of : List Leg → ℕ
values_of legs = length legs * length (strikes_of legs)

-- 'added over groups 1 to n', of a placement
unfoldable pub work_up_to : ℕ → List Leg → ℕ
work_up_to n placement = total n (λ g. values_of (group_of g placement))

-- 'that count, taken from the placement alone': over every group that a placement can have
unfoldable pub work_of : List Leg → ℕ
work_of placement = work_up_to most_groups placement

-- ---- beside the margins of groups

-- none where they are refused
abbrev pub work_listed : Result ℕ Refusal → ℕ → ℕ
work_listed (Ok n) work = work
work_listed (Err r) work = 0
