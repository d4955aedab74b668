-- Which bytes a change of the list leaves: those of a range that no segment has a byte of. A link set anew, a segment put in, one taken out.
-- Assumes nothing.
use Prim.Native.Nat.{ℕ, suc, ◌+◌, ◌≤◌}
use Rattle.std.specs.List.{AllByRecursion as Each}
use mathlib.Core.Path.{refl, ◌∙◌}
use mathlib.Core.List.{List, [], ◌∷◌}
use native.Mathlib.Omega.{arith}
use lib.Dec.{eqb}
use lib.ListN.{length, take, drop}
use Rattle.words.specs.Word.{put_word, node_word, end_mark}
use Rattle.words.proofs.Ranges.{Parted, parted_parts}
use Rattle.words.proofs.Digits.{put_length}
use Rattle.words.proofs.Stills.{Still, put_still}
use Rattle.records.proofs.Facts.{pick_either}
use Rattle.records.specs.declared.Segment.{Segment}
use Rattle.freelist.specs.Segs.{EndsBy, end_of}
use Rattle.freelist.specs.Place.{start_of, last_of}
use Rattle.freelist.specs.Link.{link_bytes, insert_bytes, remove_bytes}
use Rattle.freelist.proofs.Listing.{all_map, all_sides}
use Rattle.freelist.proofs.Meets.{OffSeg}
use Rattle.freelist.proofs.Links.{last_holds, last_in}

module _ (a e : ℕ) where
  -- a node's word has none of the bytes from a up to e
  abbrev OffNode : ℕ → Type 0
  OffNode p = Parted a e p (p + 8)

  node_off : (g : Segment) → OffSeg a e g → OffNode g.offset
  node_off g = parted_parts a e g.offset (g.offset + 8) (omega arith) (omega arith) (omega arith) (omega arith)

  -- the link after some segments set anew
  pub link_still : (l : List ℕ) (gs : List Segment) (x : ℕ) → Each (EndsBy (length l)) gs → Each (OffSeg a e) gs → Still a e l (link_bytes l (last_of gs) x)
  unfolding link_bytes
  link_still l [] x ends off = λ y low high. refl
  link_still l (g ∷ gs) x ends off =
      pick_either (Still a e l) (eqb (last_of (g ∷ gs)) end_mark) _ _ (λ _ y low high. refl)
      (λ _. put_still a e l (last_of (g ∷ gs)) _ (last_in (length l) g gs ends)
      (last_holds OffNode g gs (all_map (OffSeg a e) (λ t. OffNode t.offset) node_off (g ∷ gs) off)))

  module _ (l : List ℕ) (segs : List Segment) (k : ℕ) (ends : Each (EndsBy (length l)) segs) (off : Each (OffSeg a e) segs) where
    ends_before : Each (EndsBy (length l)) (take k segs)
    ends_before = (all_sides (EndsBy (length l)) k segs ends).0

    off_before : Each (OffSeg a e) (take k segs)
    off_before = (all_sides (OffSeg a e) k segs off).0

    -- the k-th segment taken out
    pub remove_still : Still a e l (remove_bytes l segs k)
    unfolding remove_bytes
    remove_still = link_still l (take k segs) (start_of (drop (suc k) segs)) ends_before off_before

    -- a segment put in before the k-th
    pub insert_still : (q : Segment) → end_of q ≤ length l → OffSeg a e q → Still a e l (insert_bytes l segs k q)
    unfolding insert_bytes
    insert_still q fits apart x low high =
        let y = node_word q.size (start_of (drop k segs)) in
        let n = put_length l q.offset y (omega arith) in
        link_still (put_word l q.offset y) (take k segs) q.offset (rw n ends_before) off_before x low high
        ∙ put_still a e l q.offset y (omega arith) (node_off q apart) x low high
