-- How the refusal of a read is told by an operation on a dbuf.
use Rattle.arc_core.specs.declared.served.ReadFault.{ReadFault}
use Rattle.arc_core.specs.declared.served.ReadFault.TheVariants as read
use Rattle.dbuf_state.specs.declared.fault.DbufFault.{DbufFault}
use Rattle.dbuf_state.specs.declared.fault.DbufFault.TheVariants.{Read, NoMemory}

-- want of memory stays want of memory, and every other fault is told as it is
abbrev pub fault_of : ReadFault → DbufFault
fault_of read.NoMemory = NoMemory
fault_of read.PoolFault = Read read.PoolFault
fault_of (read.Mismatch found) = Read (read.Mismatch found)
fault_of (read.Key fault) = Read (read.Key fault)
