-- The network of each width keeps what every network does.
use Rattle.pim_aig.specs.Graph.{AigView, IsAig}
use Rattle.pim_nor.specs.Leaves.{leaves}
use Rattle.pim_nor.specs.Lowered.{nors}
use Rattle.pim_nor.specs.Network.{IsNetwork}
use Rattle.pim_nor.specs.declared.lowering.Width.{Width}
use Rattle.pim_nor.proofs.AllRead.{nors-IsRead}
use Rattle.pim_nor.proofs.Constants.{constants-network_of}
use Rattle.pim_nor.proofs.LeafLists.{leaves-AreLeaves}
use Rattle.pim_nor.proofs.Sound.{network_of-IsNetwork}

pub nors-IsNetwork : (g : AigView) → IsAig g → (width : Width) → IsNetwork (nors g width)
nors-IsNetwork g sound width =
    let are = leaves-AreLeaves g sound width in
    network_of-IsNetwork g (leaves g width) sound are (nors-IsRead g sound width) (constants-network_of g (leaves g width) are)
