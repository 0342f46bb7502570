-- What an assignment text and an order file have in common.
use Rattle.std.specs.Prelude.{ℕ, List}
use Rattle.orderfile.specs.Loading.{LoadAlike}
use Rattle.orderfile.specs.Format.{States as FileStates}
use Rattle.orderfile.specs.Faults.{FirstFault as FileFault}
use Rattle.dimacs.specs.Texts.{States, FirstFault}

-- where they state the same order, loading them leaves the same tables
abbrev pub ImportsAsLoads : Type 0
ImportsAsLoads = (text file : List ℕ)
    → LoadAlike (States text) (FirstFault text) (FileStates file) (FileFault file)
