use Rattle.std.proofs.Common.{ℕ, List, arith, subst, ◌∙◌, ◌≡◌, ◌-◌, ◌+◌, ◌*◌, ◌<◌, length, ◌/◌}
use Rattle.krb_digests.specs.Rest.{rest_block, rest_blocks}
use Rattle.krb_digests.proofs.EndLemmas.{whole_block, end_block, end_room}
use Rattle.krb_digests.proofs.blocks.Rest.block.Goals as goal

pub returns-then-n-whole : goal.returns-then-n-whole
returns-then-n-whole c =
    let one : 64 * c.args.n + 64 - 64 * c.args.n ≡ 64 = omega arith in
    subst (λ (x : List ℕ). c.args.n < rest_blocks x → c.copy_from_slice.new.self ≡ rest_block x c.args.n) c.self.view_is
    (λ h. rw one at c.copy_from_slice.ensures.after ∙ whole_block c.self.inside.bytes.now c.args.n c.if-n-whole.true)

pub returns-then-n-whole-2 : goal.returns-then-n-whole-2
returns-then-n-whole-2 c =
    let rest = c.self.inside.bytes.now in
    let at = 64 * (c.args.n - length rest / 64) in
    let one : at + 64 - at ≡ 64 = omega arith in
    subst (λ (x : List ℕ). c.args.n < rest_blocks x → c.copy_from_slice-then-n-whole-2.new.self ≡ rest_block x c.args.n) c.self.view_is
    (λ h. rw one at c.copy_from_slice-then-n-whole-2.ensures.after
    ∙ end_block rest c.self.inside.end c.self.inside.size c.args.n c.self.invariant.bytes c.if-n-whole.false h)

pub returns-else-n-whole-2 : goal.returns-else-n-whole-2
returns-else-n-whole-2 c h =
    let there : c.args.n < rest_blocks c.self.inside.bytes.now = rw c.self.view_is h in
    let room = end_room c.self.inside.bytes.now c.self.inside.end c.self.inside.size c.args.n c.self.invariant.bytes c.if-n-whole.false there in
    absurd (omega (arith, room))
