-- The run of nodes after one is put in or taken out: the list is cut at the place into a and b, the last node of a is linked anew, and the two runs are joined again.
-- First over any reading of words (`w` before, `v` after), then in bytes. Assumes nothing.
use mathlib.Core.Path.{◌≡◌, refl, sym, subst, ap, ◌∙◌}
use Rattle.std.specs.List.{AllByRecursion as Each}
use mathlib.Core.Logic.{◌≢◌}
use mathlib.Core.List.{List, [], ◌∷◌, ◌++◌}
use Prim.Native.Nat.{ℕ, suc, ◌+◌, ◌^◌, ◌≤◌, ◌<◌}
use native.Mathlib.Omega.{arith}
use borrow.Author.Tests.{eq-eqb, ne_eqb}
use lib.Dec.{eqb}
use lib.ListN.{length, take, drop}
use Rattle.words.specs.Word.{word_at, put_word, node_word, size_half, end_mark}
use Rattle.words.proofs.Ranges.{parted_parts}
use Rattle.words.proofs.Digits.{put_length, put_same, word_size, word_next}
use Rattle.records.proofs.Facts.{pick_either}
use Rattle.records.specs.declared.Order.{Order}
use Rattle.records.specs.declared.Segment.{Segment}
use Rattle.freelist.specs.Segs.{Run, Pairwise, Apart, EndsBy, leads, next_at, end_of}
use Rattle.freelist.specs.Place.{place, start_of, last_of, Spotted}
use Rattle.freelist.specs.Link.{link_bytes, link_head, insert_bytes, insert_head, remove_bytes, remove_head, Inserted}
use Rattle.freelist.proofs.Listing.{all_map, all_split, all_sides, all_both, pairs_map, pairs_split}
use Rattle.freelist.proofs.Meets.{apart_sym}
use Rattle.freelist.proofs.Runs.{run_append, run_split, run_agree, run_start}
use Rattle.freelist.proofs.Words.{Outside, put_outside, put_words}

-- one node more in front
run_cons : (w : ℕ → ℕ) (q : Segment) (p e : ℕ) (ss : List Segment) → p < 4294967296 → q.offset ≢ end_mark → w q.offset ≡ node_word q.size p → Run w p ss e → Run w q.offset (q ∷ ss) e
run_cons w q p e ss h n g r =
    let z : size_half (w q.offset) ≡ q.size = rw g (word_size q.size p h) in
    let x : next_at w q.offset ≡ p = rw g (word_next q.size p h) in
    (n, ap (λ (k : ℕ). record { offset = q.offset; size = k }) (sym z), rw x r)

-- the word of s does not meet that at p
abbrev Far : ℕ → Segment → Type 0
Far p s = Outside p (p + 8) s

far_of : (s t : Segment) → Apart s t → Far t.offset s
far_of s t = parted_parts s.offset (s.offset + 8) t.offset (t.offset + 8) (omega arith) (omega arith) (omega arith) (omega arith)

-- what holds of each offset holds of the last
pub last_holds : (P : ℕ → Type 0) (s : Segment) (ss : List Segment) → Each (λ t. P t.offset) (s ∷ ss) → P (last_of (s ∷ ss))
last_holds P s [] a = a.0
last_holds P s (t ∷ ss) a = last_holds P t ss a.1

pub last_in : (n : ℕ) (s : Segment) (ss : List Segment) → Each (EndsBy n) (s ∷ ss) → last_of (s ∷ ss) + 8 ≤ n
last_in n s ss e =
    last_holds (λ o. o + 8 ≤ n) s ss (all_map (EndsBy n) (λ t. t.offset + 8 ≤ n) (λ t h. omega arith) (s ∷ ss) e)

-- the last node of a run linked to x
module _ (w v : ℕ → ℕ) (last x : ℕ) (small : x < 4294967296) (there : v last ≡ node_word (size_half (w last)) x) (else : (s : Segment) → Far last s → v s.offset ≡ w s.offset) where
  run_relinked : (p m : ℕ) (s : Segment) (ss : List Segment) → Pairwise (λ s t. Far t.offset s) (s ∷ ss) → last_of (s ∷ ss) ≡ last → Run w p (s ∷ ss) m → Run v p (s ∷ ss) x
  run_relinked p m s [] f e r =
      let o : p ≡ last = sym (ap (λ (t : Segment). t.offset) r.1) ∙ e in
      let g : v p ≡ node_word (size_half (w p)) x = rw o there in
      (r.0, rw (g, word_size (size_half (w p)) x small) r.1, rw (g, word_next (size_half (w p)) x small) refl)
  run_relinked p m s (t ∷ ss) f e r =
      let o : s.offset ≡ p = ap (λ (u : Segment). u.offset) r.1 in
      let d : Far last s = rw e at (last_holds (λ k. Far k s) t ss f.0) in
      let g : v p ≡ w p = rw o at (else s d) in
      (r.0, rw g r.1, rw g (run_relinked (next_at w p) m t ss f.1 e r.2))

last_not_end : (w : ℕ → ℕ) (p m : ℕ) (s : Segment) (ss : List Segment) → Run w p (s ∷ ss) m → last_of (s ∷ ss) ≢ end_mark
last_not_end w p m s [] r e = r.0 (sym (ap (λ (t : Segment). t.offset) r.1) ∙ e)
last_not_end w p m s (t ∷ ss) r e = last_not_end w (next_at w p) m t ss r.2 e

-- each node's word has its size, which is small where the segment ends early
run_sizes : (w : ℕ → ℕ) (n p m : ℕ) (ss : List Segment) → n < 4294967296 → Each (EndsBy n) ss → Run w p ss m → Each (λ s. size_half (w s.offset) < 4294967296) ss
run_sizes w n p m [] h e r = tt
run_sizes w n p m (s ∷ ss) h e r =
    let z : s.size < 4294967296 = omega (arith, e.0) in
    (rw r.1 (rw r.1 at z), run_sizes w n (next_at w p) m ss h e.1 r.2)

-- 01's walk is kept by a word that is put where no node of it stands
pub put_run : (l : List ℕ) (p x : ℕ) → p + 8 ≤ length l → (a b : ℕ) (ss : List Segment) → Each (Outside p (p + 8)) ss → Run (word_at l) a ss b → Run (word_at (put_word l p x)) a ss b
put_run l p x fits a b ss f = run_agree (word_at l) (word_at (put_word l p x)) a b ss (put_words l p x fits ss f)

-- a link leaves the length
length_link : (l : List ℕ) (ss : List Segment) (x : ℕ) → Each (EndsBy (length l)) ss → length (link_bytes l (last_of ss) x) ≡ length l
unfolding link_bytes
length_link l [] x e = refl
length_link l (s ∷ ss) x e =
    pick_either (λ (m : List ℕ). length m ≡ length l) (eqb (last_of (s ∷ ss)) end_mark) _ _ (λ _. refl)
    (λ _. put_length l (last_of (s ∷ ss)) _ (last_in (length l) s ss e))

-- the link after a node
link_bytes_after : (l : List ℕ) (prev x : ℕ) → (prev ≡ end_mark → ⊥) → link_bytes l prev x ≡ put_word l prev (node_word (size_half (word_at l prev)) x)
unfolding link_bytes
link_bytes_after l prev x h = rw (ne_eqb prev end_mark h)

link_head_after : (head prev x : ℕ) → (prev ≡ end_mark → ⊥) → link_head head prev x ≡ head
unfolding link_head
link_head_after head prev x h = rw (ne_eqb prev end_mark h)

-- the link after a run set to x
module _ (l : List ℕ) (x : ℕ) (small : x < 4294967296) (short : length l < 4294967296) where
  pub link_run : (head m : ℕ) (ss : List Segment) → Each (EndsBy (length l)) ss → Pairwise Apart ss → Run (word_at l) head ss m → Run (word_at (link_bytes l (last_of ss) x)) (link_head head (last_of ss) x) ss x
  unfolding link_bytes link_head
  link_run head m [] e f r = refl
  link_run head m (s ∷ ss) e f r =
      let last = last_of (s ∷ ss) in
      let k = last_in (length l) s ss e in
      let y = node_word (size_half (word_at l last)) x in
      let z : size_half (word_at l last) < 4294967296 = last_holds (λ o. size_half (word_at l o) < 4294967296) s ss (run_sizes (word_at l) (length l) head m (s ∷ ss) short e r) in
      let some = last_not_end (word_at l) head m s ss r in
      subst (λ (k : List ℕ). Run (word_at k) (link_head head last x) (s ∷ ss) x) (sym (link_bytes_after l last x some))
      (subst (λ (n : ℕ). Run (word_at (put_word l last y)) n (s ∷ ss) x) (sym (link_head_after head last x some))
      (run_relinked (word_at l) (word_at (put_word l last y)) last x small (put_same l last y k (omega arith)) (put_outside l last y k) head m s ss
      (pairs_map Apart (λ s t. Far t.offset s) (EndsBy (length l)) (λ s t a b. far_of s t) (s ∷ ss) e f) refl r))

  -- and a run of nodes apart from these is as it was
  pub link_others : (head m p q : ℕ) (ss ts : List Segment) → Each (EndsBy (length l)) ss → Each (λ s. Each (Apart s) ts) ss → Run (word_at l) head ss m → Run (word_at l) p ts q → Run (word_at (link_bytes l (last_of ss) x)) p ts q
  unfolding link_bytes
  link_others head m p q [] ts e f r t = t
  link_others head m p q (s ∷ ss) ts e f r t =
      let last = last_of (s ∷ ss) in
      let d : Each (Far last) ts = last_holds (λ o. Each (Far o) ts) s ss (all_map (λ s. Each (Apart s) ts) (λ s. Each (Far s.offset) ts) (λ s. all_map (Apart s) (Far s.offset) (λ t a. far_of t s (apart_sym s t a)) ts) (s ∷ ss) f) in
      rw (ne_eqb last end_mark (last_not_end (word_at l) head m s ss r))
      (put_run l last (node_word (size_half (word_at l last)) x) (last_in (length l) s ss e) p q ts d t)

-- a list's first node is below 2^32
pub start_small : (n : ℕ) (ss : List Segment) → n < 4294967295 → Each (EndsBy n) ss → start_of ss < 4294967296
start_small n [] h e = omega arith
start_small n (s ∷ ss) h e = omega (arith, e.0)

-- so a list starts below 2^32
pub run_small : (w : ℕ → ℕ) (n p : ℕ) (ss : List Segment) → n < 4294967295 → Each (EndsBy n) ss → Run w p ss end_mark → p < 4294967296
run_small w n p ss h e r = rw (run_start w p ss r) (start_small n ss h e)

-- what holds of both nodes that a link may leave first holds of the first
link_either : (P : ℕ → Type 0) (head prev x : ℕ) → P x → P head → P (link_head head prev x)
unfolding link_head
link_either P head prev x a b = pick_either P (eqb prev end_mark) x head (λ _. a) (λ _. b)

-- the first node of a list with one node more is the new one or the one before
pub inserted_small : {l m : List ℕ} {segs : List Segment} {first to : ℕ} {o : Order} {q : Segment} (n : ℕ) → Inserted l segs first o q m to → first ≤ n → q.offset ≤ n → to ≤ n
unfolding insert_head
inserted_small n i a b = rw i.starts (link_either (λ (x : ℕ). x ≤ n) _ _ _ b a)

-- the first of a list with one node fewer is below 2^32 too
pub remove_small : (n head : ℕ) (segs : List Segment) (k : ℕ) → n < 4294967295 → Each (EndsBy n) segs → head < 4294967296 → remove_head head segs k < 4294967296
unfolding remove_head
remove_small n head segs k h e small =
    link_either (λ (x : ℕ). x < 4294967296) head (last_of (take k segs)) (start_of (drop (suc k) segs))
    (start_small n (drop (suc k) segs) h (all_sides (EndsBy n) (suc k) segs e).1) small

-- a node q put in between a and b, and a node t taken out from between them
module _ (l : List ℕ) (short : length l < 4294967295) where
  pub insert_run : (head : ℕ) (q : Segment) (a b : List Segment) → end_of q ≤ length l → Each (λ s. Apart s q) (a ++ b) → Each (EndsBy (length l)) (a ++ b) → Pairwise Apart (a ++ b)
      → Run (word_at l) head (a ++ b) end_mark
      → Run (word_at (link_bytes (put_word l q.offset (node_word q.size (start_of b))) (last_of a) q.offset)) (link_head head (last_of a) q.offset) (a ++ q ∷ b) end_mark
  insert_run head q a b h f e g r =
      let p = q.offset in
      let x = node_word q.size (start_of b) in
      let k : p + 8 ≤ length l = omega arith in
      let l₁ = put_word l p x in
      let n : length l₁ ≡ length l = put_length l p x k in
      let short₁ : length l₁ < 4294967296 = omega arith in
      let fs = all_split (λ s. Apart s q) a b f in
      let es = all_split (EndsBy (length l)) a b e in
      let gs = pairs_split Apart a b g in
      let rs = run_split (word_at l) head end_mark a b r in
      let m = rs.0 in
      let u : m ≡ start_of b = run_start (word_at l) m b rs.2 in
      let c = start_small (length l) b short es.1 in
      let far = all_map (λ s. Apart s q) (Far p) (λ s. far_of s q) in
      let r₁ = put_run l p x k head m a (far a fs.0) rs.1 in
      let r₂ = put_run l p x k m end_mark b (far b fs.1) rs.2 in
      let r₃ : Run (word_at l₁) (start_of b) b end_mark = rw u at r₂ in
      let y : x < 2 ^ 64 = omega arith in
      let r₄ = run_cons (word_at l₁) q (start_of b) end_mark b c (λ o. omega arith) (put_same l p x k y) r₃ in
      let e₁ : Each (EndsBy (length l₁)) a = rw n es.0 in
      let x₁ = all_both (λ s. Apart s q) (λ s. Each (Apart s) b) (λ s. Each (Apart s) (q ∷ b)) (λ s v w. (v, w)) a fs.0 gs.2 in
      run_append _ _ p end_mark a (q ∷ b)
      (link_run l₁ p (omega arith) short₁ head m a e₁ gs.0 r₁)
      (link_others l₁ p (omega arith) short₁ head m p end_mark a (q ∷ b) e₁ x₁ r₁ r₄)

  pub remove_run : (head : ℕ) (t : Segment) (a b : List Segment) → Each (EndsBy (length l)) (a ++ t ∷ b) → Pairwise Apart (a ++ t ∷ b) → Run (word_at l) head (a ++ t ∷ b) end_mark
      → Run (word_at (link_bytes l (last_of a) (start_of b))) (link_head head (last_of a) (start_of b)) (a ++ b) end_mark
  remove_run head t a b e g r =
      let es = all_split (EndsBy (length l)) a (t ∷ b) e in
      let gs = pairs_split Apart a (t ∷ b) g in
      let rs = run_split (word_at l) head end_mark a (t ∷ b) r in
      let p = next_at (word_at l) rs.0 in
      let u : p ≡ start_of b = run_start (word_at l) p b rs.2.2 in
      let r₁ : Run (word_at l) (start_of b) b end_mark = rw u at rs.2.2 in
      let c = start_small (length l) b short es.1.1 in
      let short₁ : length l < 4294967296 = omega arith in
      let x₁ = all_map (λ s. Each (Apart s) (t ∷ b)) (λ s. Each (Apart s) b) (λ s v. v.1) a gs.2 in
      run_append _ _ (start_of b) end_mark a b
      (link_run l (start_of b) c short₁ head rs.0 a es.0 gs.0 rs.1)
      (link_others l (start_of b) c short₁ head rs.0 (start_of b) end_mark a b es.0 x₁ rs.1 r₁)

-- and both leave the length
module _ (l : List ℕ) (segs : List Segment) (ends : Each (EndsBy (length l)) segs) (k : ℕ) where
  before : Each (EndsBy (length l)) (take k segs)
  before = (all_sides (EndsBy (length l)) k segs ends).0

  pub insert_length : (q : Segment) → end_of q ≤ length l → length (insert_bytes l segs k q) ≡ length l
  unfolding insert_bytes
  insert_length q h =
      let y = node_word q.size (start_of (drop k segs)) in
      let n : length (put_word l q.offset y) ≡ length l = put_length l q.offset y (omega arith) in
      length_link (put_word l q.offset y) (take k segs) q.offset (rw n before) ∙ n

  pub remove_length : length (remove_bytes l segs k) ≡ length l
  unfolding remove_bytes
  remove_length = length_link l (take k segs) (start_of (drop (suc k) segs)) before

-- what the code of `link` and `insert` leaves
pub link_head_lem : (l : List ℕ) (head prev x : ℕ) → prev ≡ end_mark → (l ≡ link_bytes l prev x) × (x ≡ link_head head prev x)
unfolding link_bytes link_head
link_head_lem l head prev x e = rw (eq-eqb prev end_mark e) (refl, refl)

pub link_node : (l l' : List ℕ) (head prev x word size : ℕ) → prev ≢ end_mark → size ≡ size_half (word_at l prev) → word ≡ node_word size x → l' ≡ put_word l prev word
    → (l' ≡ link_bytes l prev x) × (head ≡ link_head head prev x)
unfolding link_bytes link_head
link_node l l' head prev x word size h s e f =
    rw (ne_eqb prev end_mark h) (f ∙ ap (put_word l prev) (e ∙ ap (λ (n : ℕ). node_word n x) s), refl)

pub inserted : (l l₁ l₂ : List ℕ) (segs : List Segment) (head r : ℕ) (o : Order) (q : Segment) (prev next index word : ℕ) → Spotted segs (leads o q) prev next index
    → word ≡ node_word q.size next → l₁ ≡ put_word l q.offset word → (l₂ ≡ link_bytes l₁ prev q.offset) × (r ≡ link_head head prev q.offset)
    → Inserted l segs head o q l₂ r
unfolding insert_bytes insert_head
inserted l l₁ l₂ segs head r o q prev next index word k g e f =
    let a : prev ≡ last_of (take (place (leads o q) segs) segs) = rw k.at at k.stands.behind in
    let b : next ≡ start_of (drop (place (leads o q) segs) segs) = rw k.at at k.stands.ahead in
    record { bytes = rw (← a, ← b, ← g, ← e) f.0; starts = rw (← a) f.1 }
