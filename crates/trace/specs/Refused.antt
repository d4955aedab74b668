-- Which answers say no.
use Rattle.std.specs.Prelude.{Bool, true, false}
use Rattle.records.specs.Answer.{Said, granted, nothing, given_back, sum, done, refused}

-- whether a call says no
abbrev pub is_refused : Said → Bool
is_refused (granted b) = false
is_refused nothing = false
is_refused (given_back b) = false
is_refused (sum n) = false
is_refused done = false
is_refused (refused number carried) = true
