use Rattle.rel_grammar.proofs.level.Level.split_sign.Goals as goal

pub returns-in-Sum : goal.returns-in-Sum
returns-in-Sum c = rw c.in-Sum.is c.sum_sign.ensures

pub returns-in-Product : goal.returns-in-Product
returns-in-Product c = rw c.in-Product.is c.product_sign.ensures
