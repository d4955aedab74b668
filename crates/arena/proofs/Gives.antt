-- The answers of `giving_back`, in the order of its tests.
-- Assumes nothing.
use Prim.Native.Nat.{ℕ, ◌+◌, ◌≤◌, ◌<◌}
use mathlib.Core.Path.{◌≡◌, ap, ◌∙◌}
use mathlib.Core.Bool.{true, false}
use mathlib.Core.List.{List, [], ◌∷◌}
use native.Mathlib.Omega.{arith}
use borrow.Author.Tests.{le-ltb, lt-ltb, eq-eqb, ne_eqb}
use lib.ListN.{length}
use Rattle.words.specs.Word.{word_at, end_mark}
use Rattle.records.specs.Answer.{leaves, refuses, given_back}
use Rattle.records.specs.Rule.{segment_of}
use Rattle.records.specs.Change.{with_top, with_first, losing}
use Rattle.records.specs.declared.Order.{Order}
use Rattle.records.specs.declared.Policy.TheVariants.{Ordered}
use Rattle.records.specs.declared.Policy.TheVariants as Policies
use Rattle.records.specs.declared.Shape.{Shape}
use Rattle.records.specs.declared.Header.{Header}
use Rattle.records.specs.declared.Segment.{Segment}
use Rattle.std.specs.Prelude.{Some, None}
use Rattle.records.proofs.Rules.{cut_of}
use Rattle.freelist.specs.Segs.{passed, end_of}
use Rattle.freelist.specs.Place.{meets}
use Rattle.freelist.specs.Link.{Inserted}
use Rattle.freelist.specs.Sound.{first_of, sound, free}
use Rattle.freelist.proofs.Arenas.{sound_head}
use Rattle.arena.specs.Give.{put_in, below_top, giving_back}
use Rattle.arena.proofs.Lists.{Held}

module _ (s : Shape) (h : Header) (l : List ℕ) (offset size : ℕ) where
  pub gives_read_only : s.read_only ≡ true → refuses 1 [] h l ≡ giving_back s h l offset size
  unfolding giving_back
  gives_read_only e = simp e

  module _ (writable : s.read_only ≡ false) where
    pub gives_damaged : sound s h l ≡ false → refuses 4 [] h l ≡ giving_back s h l offset size
    unfolding giving_back
    gives_damaged e = simp (writable, e)

    module _ (good : sound s h l ≡ true) where
      pub gives_low : offset < s.data_offset → refuses 6 (offset ∷ h.allocated ∷ []) h l ≡ giving_back s h l offset size
      unfolding giving_back
      gives_low e = simp (writable, good, lt-ltb _ _ e)

      module _ (above : s.data_offset ≤ offset) where
        pub gives_high : h.allocated < offset + size → refuses 6 (offset ∷ h.allocated ∷ []) h l ≡ giving_back s h l offset size
        unfolding giving_back
        gives_high e = simp (writable, good, le-ltb _ _ above, lt-ltb _ _ e)

        module _ (below : offset + size ≤ h.allocated) where
          pub gives_overlap : meets (free s h l) offset (offset + size) ≡ true → refuses 7 [] h l ≡ giving_back s h l offset size
          unfolding giving_back
          gives_overlap e = simp (writable, good, le-ltb _ _ above, le-ltb _ _ below, e)

          module _ (apart : meets (free s h l) offset (offset + size) ≡ false) where
            pub gives_top : offset + size ≡ h.allocated → (next : Header) → next ≡ with_top h offset → leaves (given_back true) next l ≡ giving_back s h l offset size
            unfolding giving_back
            gives_top e next f = simp (writable, good, le-ltb _ _ above, le-ltb _ _ below, apart, eq-eqb _ _ e, f)

            pub gives_below : (offset + size ≡ h.allocated → ⊥) → below_top s.policy s h l offset size ≡ giving_back s h l offset size
            unfolding giving_back
            gives_below e = simp (writable, good, le-ltb _ _ above, le-ltb _ _ below, apart, ne_eqb _ _ e)

  -- below the top, by the policy and the segment rule
  pub below_none : s.policy ≡ Policies.None → (next : Header) → next ≡ losing h size → leaves (given_back true) next l ≡ below_top s.policy s h l offset size
  unfolding below_top
  below_none policy next e = simp (policy, e)

  pub below_refused : (o : Order) → s.policy ≡ Ordered o → segment_of h.minimum_segment_size offset size ≡ None
      → (next : Header) → next ≡ losing h size → leaves (given_back false) next l ≡ below_top s.policy s h l offset size
  unfolding below_top put_in
  below_refused o policy rule next e = simp (policy, rule, e)

  module _ (q : Segment) (rule : segment_of h.minimum_segment_size offset size ≡ Some q) where
    -- the node lies in the buffer
    pub node_inside : sound s h l ≡ true → offset + size ≤ h.allocated → (end_of q ≤ length l) × (length l < end_mark)
    node_inside good below =
        let e = (cut_of _ _ _ _ rule).ends in
        let k = sound_head s h l good in
        (omega arith, omega arith)

    pub below_inserted : (o : Order) → s.policy ≡ Ordered o → (first count : ℕ) → first ≡ first_of h → Held l first count (free s h l)
        → (l' : List ℕ) (to : ℕ) → Inserted l (passed (word_at l) count first) first o q l' to
        → (linked next : Header) → linked ≡ with_first h to → next ≡ losing linked 8 → leaves (given_back true) next l' ≡ below_top s.policy s h l offset size
    unfolding below_top put_in
    below_inserted o policy first count starts k l' to i linked next e f =
        rw (f, e ∙ ap (with_first h) i.starts, i.bytes) (simp (policy, rule, ← k.are, ← starts))
