use Rattle.std.proofs.Common.{arith}
use Rattle.word.proofs.Product.{signed_product}
use Rattle.word.proofs.products.mul_of_signed.Goals as goal

pub returns : goal.returns
returns c = signed_product c.args.x c.args.y (omega arith) (omega arith)
