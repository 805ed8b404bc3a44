pub mod SocketCall
