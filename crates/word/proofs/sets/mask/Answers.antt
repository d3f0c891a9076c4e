use Rattle.std.proofs.Common.{◌≡◌, ◌%◌, ◌^◌, arith}
use Rattle.std.proofs.lemmas.Grind.{common_steps}
use Rattle.word.proofs.Members.{mask_is, mask_none}
use Rattle.word.proofs.sets.mask.Goals as goal

pub returns : goal.returns
returns c =
    let none = mask_none 64 c.args.k in
    let is : c.unwrap_or.result ≡ 2 ^ c.args.k % 2 ^ 64 = grind (arith, common_steps) in
    rw is (mask_is 64 c.args.k)
