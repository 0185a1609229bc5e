use Rattle.pac_ext.proofs.Quads.{far_by_length, far_by_unit}
use Rattle.pac_ext.proofs.quad.quad_bytes.Goals as goal

pub returns-then-units-gt15-clause-no_quad : goal.returns-then-units-gt15-clause-no_quad
returns-then-units-gt15-clause-no_quad c = far_by_length c.args.units.now c.if-units-gt15.true

pub returns-then-unit-ge128-clause-no_quad : goal.returns-then-unit-ge128-clause-no_quad
returns-then-unit-ge128-clause-no_quad c = far_by_unit c.args.units.now c.loop-unit.unit-index c.loop-unit-test.true c.if-unit-ge128.true
