-- `requests::top_end` meets its contract: the tests of `top_end`, in their order. Assumes nothing.
use mathlib.Core.Path.{◌≡◌, refl, sym, ◌∙◌}
use mathlib.Core.Bool.{Bool, true, false}
use Prim.Native.Nat.{ℕ}
use lib.Dec.{leb}
use Rattle.std.specs.Prelude.{Some, None}
use Rattle.std.specs.Bool.{then_some}
use Rattle.words.specs.Pick.{pick}
use Rattle.records.specs.declared.Request.{Request}
use Rattle.requests.specs.Request.{well_formed, plain, for_nothing, want, top_end}
use Rattle.requests.proofs.Plans.{plain_formed}
use Rattle.requests.proofs.top_end.Goals as goal

-- a choice by a test as the code makes it
chosen : (t : Bool) (a : ℕ) → then_some t a ≡ pick t (Some a) None
chosen true a = refl
chosen false a = refl

-- past the first tests the end decides
ends : (cap top : ℕ) (r : Request) (w : ℕ) → well_formed r ≡ true → for_nothing (plain r) ≡ false → w ≡ want top (plain r) → top_end cap top r ≡ then_some (leb w cap) w
unfolding top_end
ends cap top r w formed some is = simp (formed, some, ← is) (sym (chosen (leb w cap) w))

pub returns-then-not-well_formed : goal.returns-then-not-well_formed
unfolding top_end
returns-then-not-well_formed c = simp (sym c.well_formed-2.ensures ∙ c.if-not-well_formed.true)

pub returns-then-for_nothing : goal.returns-then-for_nothing
unfolding top_end
returns-then-for_nothing c =
    simp (sym c.well_formed-2.ensures ∙ c.if-not-well_formed.false, ← c.simplify-plain.ensures, sym c.for_nothing.ensures ∙ c.if-for_nothing.true)

pub at_top-want-requires : goal.at_top-want-requires
at_top-want-requires c = rw c.simplify-plain.ensures (plain_formed _ (sym c.well_formed-2.ensures ∙ c.if-not-well_formed.false))

pub returns : goal.returns
returns c =
    c.then_some.ensures ∙ sym (ends c.args.cap c.args.top c.args.request _ (cc) (cc) (rw c.simplify-plain.ensures at c.at_top-want.ensures.is))
