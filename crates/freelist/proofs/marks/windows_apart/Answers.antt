-- `freelist::marks::windows_apart` meets its contract: windows that follow each other are one.
-- Assumes nothing.
use Rattle.std.proofs.Common.{◌≡◌, ◌+◌, ◌*◌, arith}
use Rattle.freelist.specs.Nodes.{rest}
use Rattle.freelist.proofs.Claims.{tells_yes, tells_no, free_part, free_join, free_none}
use Rattle.freelist.proofs.marks.windows_apart.Goals as goal

pub loop-window-init : goal.loop-window-init
loop-window-init c = free_none 0 0 (rest c.args.nodes) (omega arith)

pub returns-then-not-window_apart : goal.returns-then-not-window_apart
returns-then-not-window_apart c h =
    let w = c.window_apart in
    tells_no w.result _ c.if-not-window_apart.true w.ensures (free_part _ _ _ _ (rest c.args.nodes) (omega arith) (omega arith) h)

pub loop-window-preserved : goal.loop-window-preserved
loop-window-preserved c =
    let w = c.window_apart in
    let e : (c.loop-window.window + 1) * 65536 ≡ c.loop-window.window * 65536 + 65536 = omega arith in
    rw e
    (free_join 0 _ _ (rest c.args.nodes) c.loop-window.invariant (tells_yes w.result _ c.if-not-window_apart.false w.ensures))
