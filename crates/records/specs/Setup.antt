-- Setup. Document 01, 'Numbers that bound it' and refusals 2 and 3.
use Rattle.std.specs.Prelude.{ℕ, ◌+◌, ◌≤◌, ◌<◌, ◌≡◌, Bool, false, ◌||◌, ltb, eqb, Result, Ok, Err}
use Rattle.words.specs.Round.{round_up}
use Rattle.words.specs.Word.{node_word, end_mark}
use Rattle.words.specs.Pick.{pick}
use Rattle.records.specs.Answer.{Began, ready, unready}
use Rattle.records.specs.declared.Order.TheVariants.{Optimistic, Pessimistic}
use Rattle.records.specs.declared.Policy.{Policy}
use Rattle.records.specs.declared.Policy.TheVariants.{None, Ordered}
use Rattle.records.specs.declared.UnknownFreelist.{UnknownFreelist}
use Rattle.records.specs.declared.Settings.{Settings}
use Rattle.records.specs.declared.Shape.{Shape}
use Rattle.records.specs.declared.Header.{Header}

-- 01: buffer length = cap, at most 1,073,741,824; sizes and extras at most 1,073,741,824 each
abbrev pub limit : ℕ
limit = 1073741824

-- 01: data offset: reserved + 1, or with unify align8(reserved) + 32
unfoldable pub data_offset : ℕ → Bool → ℕ
data_offset reserved unify = pick unify (round_up 8 reserved + 32) (reserved + 1)

-- what the code says of a data offset: the value, and the bounds that follow from it
pub record Offset (reserved : ℕ) (unify : Bool) (r : ℕ) : Type 0 where
  pub is : r ≡ data_offset reserved unify
  pub low : reserved < r
  pub high : r ≤ reserved + 40

-- the policies by their codes: none 0, optimistic 1, pessimistic 2
unfoldable pub policy_of : ℕ → Result Policy UnknownFreelist
policy_of code = pick (eqb code 0) (Ok None) (pick (eqb code 1) (Ok (Ordered Optimistic)) (pick (eqb code 2) (Ok (Ordered Pessimistic)) (Err (record {}))))

-- the policy's code, the inverse of policy_of
abbrev pub code_of : Policy → ℕ
code_of None = 0
code_of (Ordered Optimistic) = 1
code_of (Ordered Pessimistic) = 2

-- 01: defaults: optimistic list, minimum segment size 20, reserved 0, unify off
abbrev pub default_settings : Settings
default_settings =
    record { reserved = 0; unify = false; policy = 1; minimum_segment_size = 20; read_only = false }

abbrev pub shape_of : Settings → ℕ → Policy → Shape
shape_of s cap f =
    record {
      cap = cap;
      reserved = s.reserved;
      data_offset = data_offset s.reserved s.unify;
      unify = s.unify;
      read_only = s.read_only;
      policy = f;
    }

-- 01: fresh: allocated = data offset, discarded 0, list empty; an empty list's sentinel has the end mark in both halves
abbrev pub fresh_header : ℕ → ℕ → Header
fresh_header start least =
    record { sentinel = node_word end_mark end_mark; allocated = start; minimum_segment_size = least; discarded = 0 }

-- 01: 2 is given for a policy code other than 0, 1, 2; then 3 for cap over the limit, or data offset > cap
abbrev pub setting_up_by : Result Policy UnknownFreelist → Settings → ℕ → Began
setting_up_by (Err e) s cap = unready 2
setting_up_by (Ok f) s cap =
    pick (ltb limit cap || ltb cap (data_offset s.reserved s.unify)) (unready 3)
    (ready (shape_of s cap f) (fresh_header (data_offset s.reserved s.unify) s.minimum_segment_size))

-- setup over a buffer of cap bytes
unfoldable pub setting_up : Settings → ℕ → Began
setting_up s cap = setting_up_by (policy_of s.policy) s cap
