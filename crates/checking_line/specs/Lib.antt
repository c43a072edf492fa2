-- The line that the program prints, in a buffer: what its verdict says, and what writing it promises. The laws are proved from that.
pub mod Said
pub mod Laws
