-- A request that the top can't meet is granted exactly if some free segment has the room that it needs, and the segment that serves it is a best one.
-- What the search finds says both: it finds a best segment, or none has room. Assumes nothing.
use Prim.Native.Nat.{ℕ, ◌+◌, ◌-◌, ◌≤◌, ◌<◌}
use Rattle.std.specs.List.{AllByRecursion as Each}
use Rattle.std.specs.Prelude.{Option, Some, None as Refused}
use mathlib.Core.Path.{◌≡◌, refl, subst⁻¹}
use mathlib.Core.Logic.{◌↔◌}
use mathlib.Core.Bool.{true}
use mathlib.Core.List.{List, Memᴰ}
use native.Mathlib.Omega.{arith}
use borrow.Author.Tests.{lt-leb}
use lib.ListN.{length, get_or}
use Rattle.records.specs.Answer.{Outcome, granted, refused, refuses}
use Rattle.records.specs.Rule.{segment_of}
use Rattle.records.proofs.Facts.{facts_head}
use Rattle.records.specs.declared.Order.{Order}
use Rattle.records.specs.declared.Policy.{Policy}
use Rattle.records.specs.declared.Policy.TheVariants.{None, Ordered}
use Rattle.records.specs.declared.Shape.{Shape}
use Rattle.records.specs.declared.Header.{Header}
use Rattle.records.specs.declared.Block.{Block}
use Rattle.records.specs.declared.Request.{Request}
use Rattle.records.specs.declared.Segment.{Segment}
use Rattle.requests.specs.Request.{well_formed, plain, want, need, list_block}
use Rattle.requests.proofs.Plans.{plain_formed, block_in_list}
use Rattle.freelist.specs.Place.{remove_at}
use Rattle.freelist.specs.Link.{remove_bytes, remove_head}
use Rattle.freelist.specs.Sound.{first_of}
use Rattle.freelist.proofs.Places.{all_mem, mem_at}
use Rattle.arena.specs.Take.{found, serve_from, nowhere, serve, past_top, taking}
use Rattle.promise.specs.Runs.{State, free_in, Best, PastTop}
use Rattle.promise.proofs.Holding.{Kept, hold_head, hold_good}
use Rattle.promise.proofs.Looks.{FindsBest, past_each}

-- an outcome grants a block; some segment fits a request; a best segment that fits was taken for a block: as the promise has it
abbrev pub Grants : Outcome → Type 0
Grants x = (b : Block) × (x.says ≡ granted b)

abbrev pub Fits : Shape → State → Request → Type 0
Fits s st r = (g : Segment) × Memᴰ g (free_in s st) × (need (plain r) ≤ g.size)

abbrev pub Chosen : Shape → State → Request → Block → Type 0
Chosen s st r b =
    (g : Segment) × Memᴰ g (free_in s st) × (b.memory_offset ≡ g.offset) × (need (plain r) ≤ g.size) × Best s.policy (need (plain r)) g (free_in s st)

-- a segment that serves a request grants a block that starts where it does
record GrantsAt (at : ℕ) (o : Outcome) : Type 0 where
  block : Block
  is : o.says ≡ granted block
  starts : block.memory_offset ≡ at

module _ (h : Header) (l : List ℕ) (segs : List Segment) (o : Order) (r : Request) (i : ℕ) (formed : well_formed r ≡ true) (fits : need r ≤ (get_or segs i nowhere).size) where
  abbrev g : Segment
  g = get_or segs i nowhere

  serve_grants : GrantsAt g.offset (serve h l segs o r i)
  unfolding serve serve_from
  serve_grants = go (segment_of h.minimum_segment_size (g.offset + 8 + need r) (g.size - need r))
    where
      go : (x : Option Segment) → GrantsAt g.offset (serve_from h (remove_bytes l segs i) (remove_head (first_of h) segs i) (remove_at i segs) o r g x)
      go Refused = record { block = list_block g.offset g.size r; is = refl; starts = (block_in_list _ _ r formed fits).starts }
      go (Some q) = record { block = list_block g.offset (need r) r; is = refl; starts = (block_in_list _ (need r) r formed (omega arith)).starts }

-- a refusal grants nothing
refused_grants : (n : ℕ) (carried : List ℕ) (b : Block) → refused n carried ≡ granted b → ⊥
refused_grants n carried b e = cc

module _ {s : Shape} {st : State} (k : Kept s st) (r : Request) (past : PastTop s st r) where
  -- no test before the list's refuses the request or meets it
  takes_past : taking s st.header st.bytes r ≡ past_top s.policy s st.header st.bytes (plain r)
  unfolding taking
  takes_past =
      simp (
        k.writable,
        past.formed,
        facts_head s st.header (length st.bytes) (hold_head k.holding),
        past.some,
        lt-leb (want st.header.allocated (plain r)) s.cap (omega (arith, past)),
        k.holding.sounds,
      )

  -- a segment that has room for the request serves it
  serves : (o : Order) (i : ℕ) → need (plain r) ≤ (get_or (free_in s st) i nowhere).size → GrantsAt (get_or (free_in s st) i nowhere).offset (serve st.header st.bytes (free_in s st) o (plain r) i)
  serves o i = serve_grants st.header st.bytes (free_in s st) o (plain r) i (plain_formed r past.formed)

  -- what holds of each way to go past the top holds of the request
  past_one : (P : Outcome → Type 0)
      → ((carried : List ℕ) → s.policy ≡ None → P (refuses 9 carried st.header st.bytes))
      → ((carried : List ℕ) → Each (λ g. g.size < need (plain r)) (free_in s st) → P (refuses 9 carried st.header st.bytes))
      → ((o : Order) → s.policy ≡ Ordered o → (i : ℕ) → FindsBest o (need (plain r)) (free_in s st) (found i) → P (serve st.header st.bytes (free_in s st) o (plain r) i))
      → P (taking s st.header st.bytes r)
  past_one P none small served = rw takes_past (past_each s st.header st.bytes (hold_good k.holding) (plain r) P none small served)

  pub grants_exactly : (s.policy ≡ None → ⊥) → Grants (taking s st.header st.bytes r) ↔ Fits s st r
  grants_exactly ordered =
      past_one (λ (x : Outcome). Grants x ↔ Fits s st r) (λ carried none. absurd (ordered none))
      (λ carried small. (λ b. absurd (refused_grants _ _ b.0 b.1), λ g. absurd (too_small g (all_mem (λ (f : Segment). f.size < need (plain r)) g.0 (free_in s st) g.1 small))))
      (λ o policy i x. (λ b. (get_or (free_in s st) i nowhere, mem_at (free_in s st) i nowhere x.0, x.1), λ g. let y = serves o i x.1 in (y.block, y.is)))
    where
      too_small : (g : Fits s st r) → g.0.size < need (plain r) → ⊥
      too_small g less = omega arith

  pub chooses_best : (b : Block) → (taking s st.header st.bytes r).says ≡ granted b → Chosen s st r b
  chooses_best b =
      past_one (λ (x : Outcome). x.says ≡ granted b → Chosen s st r b) (λ carried none e. absurd (refused_grants _ _ b e)) (λ carried small e. absurd (refused_grants _ _ b e))
      (λ o policy i x e.
      let g = get_or (free_in s st) i nowhere in
      let y = serves o i x.1 in
      let same : y.block ≡ b = cc in
      (g, mem_at (free_in s st) i nowhere x.0, rw same at y.starts, x.1, subst⁻¹ (λ (f : Policy). Best f (need (plain r)) g (free_in s st)) policy x.2))
