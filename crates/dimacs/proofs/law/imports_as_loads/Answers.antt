-- Any two formats load alike.
use Rattle.orderfile.proofs.LoadedGrid.{load_alike}
use Rattle.dimacs.proofs.law.imports_as_loads.Goals as goal

pub returns : goal.returns
returns c text file = load_alike
