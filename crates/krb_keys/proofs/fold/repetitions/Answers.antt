use Rattle.std.proofs.Common.{◌≡◌, ℕ, ◌+◌, ◌-◌, ◌*◌, ◌%◌, sym, ap, ◌∙◌, arith}
use Rattle.std.proofs.Math.Nat.{mul-mod_right}
use Rattle.krb_keys.proofs.LcmLemmas.{least_from, lcm_is, found, passed}
use Rattle.krb_keys.proofs.fold.repetitions.Goals as goal

pub loop-m-init : goal.loop-m-init
loop-m-init c = lcm_is c.args.len c.args.n ∙ ap (least_from c.args.len c.args.n 1)
    {x = c.args.n} {y = c.args.n + 1 - 1} (omega arith)

pub loop-m-preserved : goal.loop-m-preserved
loop-m-preserved c =
    c.loop-m.invariant
    ∙ passed c.args.len c.args.n c.loop-m.m (c.args.n + 1 - c.loop-m.m) (c.args.n + 1 - (c.loop-m.m + 1))
    c.if-m-len-eq0.false (omega arith)

pub returns-then-m-len-eq0-clause-value : goal.returns-then-m-len-eq0-clause-value
returns-then-m-len-eq0-clause-value c =
    sym (c.loop-m.invariant ∙ found c.args.len c.args.n c.loop-m.m (c.args.n + 1 - c.loop-m.m)
    c.if-m-len-eq0.true (omega arith))

pub returns-clause-value : goal.returns-clause-value
returns-clause-value c =
    let end : c.loop-m.m ≡ c.args.n = omega arith in
    let whole : c.loop-m.m * c.args.len % c.args.n ≡ 0 = rw end (mul-mod_right c.args.n c.args.len) in
    sym (c.loop-m.invariant ∙ found c.args.len c.args.n c.loop-m.m (c.args.n + 1 - c.loop-m.m) whole
    (omega arith) ∙ ap (λ (k : ℕ). k * c.args.len) end)
