-- `arena::take_else` meets its contract. The answers of `taking` in the order of its tests, but for the top's.
-- Assumes nothing.
use Prim.Native.Nat.{ℕ}
use mathlib.Core.Path.{◌≡◌, sym, ◌∙◌}
use mathlib.Core.Bool.{Bool, true, false}
use Rattle.records.specs.declared.Shape.{Shape}
use Rattle.records.specs.declared.Header.{Header}
use Rattle.records.specs.declared.Request.{Request}
use Rattle.records.specs.Head.{head_sound}
use Rattle.requests.specs.Request.{well_formed, plain}
use Rattle.requests.proofs.Plans.{plain_formed}
use Rattle.freelist.proofs.Surveys.{found_unsound}
use Rattle.arena.proofs.Lists.{found_counted}
use Rattle.arena.proofs.Takes.{Admitted, takes_read_only, takes_bad_layout, takes_damaged, takes_nothing, takes_unsound, takes_past}
use Rattle.arena.proofs.take_else.Goals as goal

-- what the tests have shown once the request is simplified
admitted :
    {s : Shape} {h : Header} {n : ℕ} {r p : Request} {form head : Bool} →
    s.read_only ≡ false → form ≡ well_formed r → form ≡ true → head ≡ head_sound s h n → head ≡ true → p ≡ plain r → Admitted s h n r p
admitted writable is formed was sound simple = record { writable = writable; formed = sym is ∙ formed; head = sym was ∙ sound; simple = simple }

pub returns-then-shape : goal.returns-then-shape
returns-then-shape c = takes_read_only _ _ _ _ c.if-shape.true

pub returns-then-not-well_formed : goal.returns-then-not-well_formed
returns-then-not-well_formed c = takes_bad_layout _ _ _ _ c.if-shape.false (sym c.well_formed-2.ensures ∙ c.if-not-well_formed.true)

pub returns-then-not-head_sound : goal.returns-then-not-head_sound
returns-then-not-head_sound c =
    takes_damaged _ _ _ _ c.if-shape.false (sym c.well_formed-2.ensures ∙ c.if-not-well_formed.false) (sym c.head_sound.ensures ∙ c.if-not-head_sound.true)

pub returns-then-for_nothing : goal.returns-then-for_nothing
returns-then-for_nothing c =
    let k = admitted c.if-shape.false c.well_formed-2.ensures c.if-not-well_formed.false c.head_sound.ensures c.if-not-head_sound.false c.simplify-plain.ensures in
    takes_nothing _ _ _ _ _ k (sym c.for_nothing.ensures ∙ c.if-for_nothing.true)

pub returns-in_default : goal.returns-in_default
returns-in_default c =
    let k = admitted c.if-shape.false c.well_formed-2.ensures c.if-not-well_formed.false c.head_sound.ensures c.if-not-head_sound.false c.simplify-plain.ensures in
    takes_unsound _ _ _ _ _ k (sym c.for_nothing.ensures ∙ c.if-for_nothing.false) c.requires (found_unsound _ _ _ (cc))

pub past_top-requires : goal.past_top-requires
past_top-requires c =
    let k = admitted c.if-shape.false c.well_formed-2.ensures c.if-not-well_formed.false c.head_sound.ensures c.if-not-head_sound.false c.simplify-plain.ensures in
    record { found = found_counted _ _ _ c.in-Some.count (cc); formed = rw k.simple (plain_formed _ k.formed) }

pub returns : goal.returns
returns c =
    let k = admitted c.if-shape.false c.well_formed-2.ensures c.if-not-well_formed.false c.head_sound.ensures c.if-not-head_sound.false c.simplify-plain.ensures in
    c.past_top.ensures
    ∙ takes_past _ _ _ _ _ k (sym c.for_nothing.ensures ∙ c.if-for_nothing.false) c.requires (found_counted _ _ _ c.in-Some.count (cc)).good
