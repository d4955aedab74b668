-- The number that digits say, as the library reads it. Assumes nothing.
use Rattle.std.proofs.Common.{◌≡◌, ◌≢◌, ℕ, ap, pos, [], ◌∷◌, true, List, Result, None, Ok, Err, refl, get_or, rules, tests, arith}
use Rattle.std.specs.Str.{all_ascii_digits}
use Rattle.std.specs.Str.Parse.{ParsesUnsigned}
use Rattle.std.specs.Str.Pattern.{FindsCharPrefix}
use Rattle.std.specs.Result.{result_ok}
use Rattle.std.proofs.lemmas.Str.Pattern.{strip_prefix_char}
use Rattle.std.proofs.lemmas.Str.Parse.{IsNumeralModel, numerals_by_fold, parse_plain}
use Prim.Native.Nat.{◌+◌, ◌-◌, ◌*◌, ◌<◌}
use mathlib.Core.List.{◌++◌}
use native.Mathlib.Numerals.{add-one}
use lib.ListN.{length, take}
use lib.Seq.{take-suc}
use Rattle.trace.specs.Numeral.{onto, numeral, signed_numeral, Says, Counted}

-- a digit at the end
onto_end : (n d : ℕ) (ds : List ℕ) → onto n (ds ++ (d ∷ [])) ≡ onto n ds * 10 + (d - 48)
unfolding onto
onto_end n d [] = refl
onto_end n d (x ∷ ds) = onto_end (n * 10 + (x - 48)) d ds

-- the digits up to i and the one at i. No proof cites this law: it is how a reader goes on by one digit
pub onto_more : (n : ℕ) (ds : List ℕ) (i : ℕ) → i < length ds → onto n (take i ds) * 10 + (get_or ds i 0 - 48) ≡ onto n (take (i + 1) ds)
onto_more n ds i h = rw (add-one i, take-suc ds i 0 h, onto_end n (get_or ds i 0) (take i ds))

-- what the library's fold over digits says is their numeral
numerals : IsNumeralModel (λ ds. all_ascii_digits ds ≡ true) numeral
unfolding onto
numerals = numerals_by_fold _ (search rules) onto (search rules)

-- what is parsed with no plus in front is what the digits say
pub parsed : {E : Type 0} (ds : List ℕ) (r : Result ℕ E) → ParsesUnsigned 64 10 ds r → get_or ds 0 0 ≢ 43 → Says ds (result_ok r)
parsed {E} ds (Ok n) h no_plus = (parse_plain numerals {E = E} 64 ds (Ok n) h no_plus).1
parsed ds (Err e) h no_plus = tt

-- with no minus in front they say a number from zero up
pub signed_plain : (ds : List ℕ) → FindsCharPrefix 45 ds None → signed_numeral ds ≡ pos (numeral ds)
signed_plain [] h = refl
signed_plain (d ∷ ds) h =
    let no_minus : d ≢ 45 = λ e. strip_prefix_char 45 (d ∷ ds) None h (omega arith) ds (ap (λ (x : ℕ). x ∷ ds) e) in
    search (tests, rules)

-- no number says nothing. docs/PORT.md names this law; the search finds it, so no proof cites it
pub uncounted : {T E : Type 0} (gives : ℕ → Result T E → Type 0) (ds : List ℕ) → Counted gives ds None
uncounted gives ds = tt
